use Rattle.std.proofs.Common.{sym, subst}
use Rattle.fs_stores.specs.InputValues.{inputs_of}
use Rattle.fs_runs.specs.Outcomes.{IsStopOfRun}
use Rattle.fs_trials.proofs.Apart.{no_end}
use Rattle.fs_trials.proofs.differences.end_of.Goals as goal

pub returns-in-Err-StepsOver : goal.returns-in-Err-StepsOver
returns-in-Err-StepsOver c =
    no_end c.args.m.now (inputs_of c.args.inputs.now) c.args.steps c.in-Err-StepsOver.field-0 c.in-Err-StepsOver.ensures.stopped
    (subst IsStopOfRun (sym c.in-Err-StepsOver.field-0-is) tt)

pub returns-in-Err-PastWide : goal.returns-in-Err-PastWide
returns-in-Err-PastWide c =
    no_end c.args.m.now (inputs_of c.args.inputs.now) c.args.steps c.in-Err-PastWide.field-0 c.in-Err-PastWide.ensures.stopped
    (subst IsStopOfRun (sym c.in-Err-PastWide.field-0-is) tt)
