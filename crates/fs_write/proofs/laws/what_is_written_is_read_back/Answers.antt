use Rattle.fs_write.proofs.WholeTexts.{reads_back}
use Rattle.fs_write.proofs.laws.what_is_written_is_read_back.Goals as goal

pub returns : goal.returns
returns c = reads_back
