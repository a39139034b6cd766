use Rattle.base_laws.proofs.Divided.{above, below}
use Rattle.base_laws.proofs.laws.a_remainder_has_the_sign_of_its_dividend.Goals as goal

pub returns-clause-above : goal.returns-clause-above
returns-clause-above c = above

pub returns-clause-below : goal.returns-clause-below
returns-clause-below c = below
