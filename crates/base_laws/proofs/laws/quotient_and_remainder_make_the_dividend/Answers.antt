use Rattle.base_laws.proofs.Divided.{made}
use Rattle.base_laws.proofs.laws.quotient_and_remainder_make_the_dividend.Goals as goal

pub returns : goal.returns
returns c = made
