use Rattle.cert_model.proofs.Alone.{at_most_one, one_alone}
use Rattle.cert_model.proofs.laws.nodes_at_different_points_stand_alone.Goals as goal

pub returns-clause-alone : goal.returns-clause-alone
returns-clause-alone c = λ nodes differ P Q. at_most_one nodes P Q differ

pub returns-clause-judged : goal.returns-clause-judged
returns-clause-judged c = one_alone
