use Rattle.fs_write.proofs.Again.{only_lines}
use Rattle.fs_write.proofs.laws.only_lines_change.Goals as goal

pub returns : goal.returns
returns c = only_lines
