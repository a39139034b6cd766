use Rattle.fsmd_pair_answers.proofs.Once.{closed_not_open, limit_not_open}
use Rattle.fsmd_pair_answers.proofs.laws.closed_searches_and_limits_leave_nothing_open.Goals as goal

pub returns-clause-closed : goal.returns-clause-closed
returns-clause-closed c = closed_not_open

pub returns-clause-limit : goal.returns-clause-limit
returns-clause-limit c = limit_not_open
