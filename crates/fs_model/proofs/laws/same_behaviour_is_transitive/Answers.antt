use Rattle.fs_model.proofs.Behaviour.{transitive}
use Rattle.fs_model.proofs.laws.same_behaviour_is_transitive.Goals as goal

pub returns : goal.returns
returns c = transitive
