use Rattle.std.proofs.Common.{◌≡◌, ◌++◌, map, drop}
use Rattle.std.specs.List.{flat_map}
use Rattle.hls_sched.specs.Reports.{report_of}
use Rattle.fsmd_synthesis_answers.specs.ScheduleAnswers.{report_text}
use Rattle.fsmd_synthesis_answers.proofs.schedules.reports_text.Given as goal

abbrev pub invariant-loop-line : goal.invariant-loop-line
invariant-loop-line l =
    l.out.items ++ flat_map (report_text l.machine) (map report_of (drop l.line-index l.lines)) ≡ flat_map (report_text l.machine) (map report_of l.lines)
