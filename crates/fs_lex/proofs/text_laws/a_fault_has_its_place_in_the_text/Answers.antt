use Rattle.fs_lex.proofs.Limit.{fault_stands}
use Rattle.fs_lex.proofs.text_laws.a_fault_has_its_place_in_the_text.Goals as goal

pub returns : goal.returns
returns c = fault_stands
