use Rattle.cert_model.proofs.AllHold.{same_where_yes}
use Rattle.cert_model.proofs.laws.obligations_give_same_behaviour.Goals as goal

pub returns : goal.returns
returns c = same_where_yes
