use Rattle.fs_runs.proofs.RunOnce.{one_end, one_stop, end_or_stop}
use Rattle.fs_runs.proofs.laws.a_run_has_one_outcome.Goals as goal

pub returns-clause-ended : goal.returns-clause-ended
returns-clause-ended c = one_end

pub returns-clause-stopped : goal.returns-clause-stopped
returns-clause-stopped c = one_stop

pub returns-clause-apart : goal.returns-clause-apart
returns-clause-apart c = end_or_stop
