use Rattle.sym_facts.proofs.FactVectors.{vector_means}
use Rattle.sym_facts.proofs.Entailing.{entailed}
use Rattle.sym_facts.proofs.laws.facts_mean_their_vectors.Goals as goal

pub returns-clause-vector : goal.returns-clause-vector
returns-clause-vector c = vector_means

pub returns-clause-entailed : goal.returns-clause-entailed
returns-clause-entailed c = entailed
