use Rattle.fs_grammar.proofs.Exact.{fault_is_first, first_is_fault}
use Rattle.fs_grammar.proofs.laws.the_fault_is_at_the_first_wrong_token.Goals as goal

pub returns-clause-found : goal.returns-clause-found
returns-clause-found c = λ f ts h e. fault_is_first ts f h e

pub returns-clause-only : goal.returns-clause-only
returns-clause-only c = λ f ts h. first_is_fault ts f h
