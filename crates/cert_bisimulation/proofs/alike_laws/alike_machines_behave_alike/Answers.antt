use Rattle.cert_bisimulation.proofs.Twins.{alike_behave_alike}
use Rattle.cert_bisimulation.proofs.alike_laws.alike_machines_behave_alike.Goals as goal

pub returns : goal.returns
returns c = λ a b pairs sound_a sound_b al. alike_behave_alike a b sound_a sound_b pairs al
