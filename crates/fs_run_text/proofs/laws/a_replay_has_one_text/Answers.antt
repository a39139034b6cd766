use Rattle.fs_run_text.proofs.Once.{replay_once}
use Rattle.fs_run_text.proofs.laws.a_replay_has_one_text.Goals as goal

pub returns : goal.returns
returns c = replay_once
