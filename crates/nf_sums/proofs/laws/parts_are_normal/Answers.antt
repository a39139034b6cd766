use Rattle.nf_sums.proofs.NormalParts.{writes_normal}
use Rattle.nf_sums.proofs.laws.parts_are_normal.Goals as goal

pub returns-clause-arrays : goal.returns-clause-arrays
returns-clause-arrays c = writes_normal
