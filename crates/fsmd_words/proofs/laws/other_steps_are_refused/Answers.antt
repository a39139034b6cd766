use Rattle.fsmd_words.proofs.OtherSteps.{check_fails, check_fails_attached, replay_fails, replay_fails_attached, run_fails, run_fails_attached}
use Rattle.fsmd_words.proofs.OtherSteps.{shrink_fails, shrink_fails_attached, too_few, too_many}
use Rattle.fsmd_words.proofs.laws.other_steps_are_refused.Goals as goal

pub returns : goal.returns
returns c = record {
  too_few = too_few;
  too_many = too_many;
  check = check_fails;
  check_attached = check_fails_attached;
  run = run_fails;
  run_attached = run_fails_attached;
  replay = replay_fails;
  replay_attached = replay_fails_attached;
  shrink = shrink_fails;
  shrink_attached = shrink_fails_attached;
}
