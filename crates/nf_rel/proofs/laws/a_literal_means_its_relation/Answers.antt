use Rattle.nf_rel.proofs.Values.{literal_means}
use Rattle.nf_rel.proofs.laws.a_literal_means_its_relation.Goals as goal

pub returns : goal.returns
returns c = literal_means
