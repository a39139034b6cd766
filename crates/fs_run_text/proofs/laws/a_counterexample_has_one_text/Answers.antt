use Rattle.fs_run_text.proofs.Once.{counterexample_once}
use Rattle.fs_run_text.proofs.laws.a_counterexample_has_one_text.Goals as goal

pub returns : goal.returns
returns c = counterexample_once
