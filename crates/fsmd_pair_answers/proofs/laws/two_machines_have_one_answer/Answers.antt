use Rattle.fsmd_pair_answers.proofs.Once.{one_answer}
use Rattle.fsmd_pair_answers.proofs.laws.two_machines_have_one_answer.Goals as goal

pub returns : goal.returns
returns c = one_answer
