use Rattle.fs_run_text.proofs.Once.{end_once, stop_once}
use Rattle.fs_run_text.proofs.RunOnce.{run_once}
use Rattle.fs_run_text.proofs.laws.a_run_has_one_text.Goals as goal

pub returns-clause-ended : goal.returns-clause-ended
returns-clause-ended c = end_once

pub returns-clause-stopped : goal.returns-clause-stopped
returns-clause-stopped c = stop_once

pub returns-clause-whole : goal.returns-clause-whole
returns-clause-whole c = run_once
