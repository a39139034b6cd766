use Rattle.alike_searches.proofs.Interfaces.{one_interface}
use Rattle.alike_searches.proofs.laws.machines_that_declare_the_same_have_one_interface.Goals as goal

pub returns : goal.returns
returns c = λ a b sound_a sound_b. one_interface a b sound_a.variables_differ sound_b.variables_differ
