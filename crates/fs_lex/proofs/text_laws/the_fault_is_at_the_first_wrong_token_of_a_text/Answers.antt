use Rattle.fs_lex.proofs.Limit.{fault_found, fault_only}
use Rattle.fs_lex.proofs.text_laws.the_fault_is_at_the_first_wrong_token_of_a_text.Goals as goal

pub returns-clause-found : goal.returns-clause-found
returns-clause-found c = fault_found

pub returns-clause-only : goal.returns-clause-only
returns-clause-only c = fault_only
