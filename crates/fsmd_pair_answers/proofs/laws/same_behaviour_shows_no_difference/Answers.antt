use Rattle.fsmd_pair_answers.proofs.Behaviour.{same_show_nothing}
use Rattle.fsmd_pair_answers.proofs.laws.same_behaviour_shows_no_difference.Goals as goal

pub returns : goal.returns
returns c = same_show_nothing
