use Rattle.fs_phrase_text.proofs.ExactExpressions.{fault_is_first, first_is_fault}
use Rattle.fs_phrase_text.proofs.expression_laws.the_fault_is_at_the_first_wrong_token.Goals as goal

pub returns-clause-found : goal.returns-clause-found
returns-clause-found c = λ e f ts h q. fault_is_first e ts f h q

pub returns-clause-only : goal.returns-clause-only
returns-clause-only c = λ e f ts h. first_is_fault e ts f h
