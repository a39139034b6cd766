use Rattle.fs_write.proofs.Again.{one_meaning}
use Rattle.fs_write.proofs.laws.a_text_has_one_meaning.Goals as goal

pub returns : goal.returns
returns c = one_meaning
