use Rattle.base_laws.proofs.Divided.{smaller}
use Rattle.base_laws.proofs.laws.a_remainder_is_smaller_than_its_divisor.Goals as goal

pub returns : goal.returns
returns c = smaller
