use Rattle.fs_lex.proofs.Read.{read_is_well_formed}
use Rattle.fs_lex.proofs.text_laws.what_is_read_is_well_formed.Goals as goal

pub returns : goal.returns
returns c = read_is_well_formed
