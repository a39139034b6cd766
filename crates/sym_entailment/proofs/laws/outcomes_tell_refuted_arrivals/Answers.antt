use Rattle.sym_entailment.proofs.Apart.{refuted_arrival}
use Rattle.sym_entailment.proofs.laws.outcomes_tell_refuted_arrivals.Goals as goal

pub returns : goal.returns
returns c = refuted_arrival
