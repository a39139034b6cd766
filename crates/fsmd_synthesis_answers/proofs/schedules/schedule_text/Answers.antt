use Rattle.std.proofs.Common.{◌∙◌, ◌++◌, ℕ, List, map, ap}
use Rattle.std.specs.List.{flat_map}
use Rattle.fs_lex.proofs.Texts.{spells}
use Rattle.hls_sched.specs.declared.scheduling.LineReport.{LineReport}
use Rattle.hls_sched.specs.Reports.{report_of}
use Rattle.fsmd_synthesis_answers.specs.ScheduleAnswers.{report_text}
use Rattle.fsmd_synthesis_answers.proofs.Comments.{behind_told}
use Rattle.fsmd_synthesis_answers.proofs.schedules.schedule_text.Goals as goal

pub returns-in_ok-extend_from_slice-in-Ok-clause-spells : goal.returns-in_ok-extend_from_slice-in-Ok-clause-spells
returns-in_ok-extend_from_slice-in-Ok-clause-spells c =
    let m = c.args.machine.now in
    let told = c.in_ok-bytes.bytes.items in
    behind_told m c.args.scheduled.now.lines.items told c.in-Ok.text.items _ _ c.vars-sound.ensures.sound
    (c.in_ok-bytes.ensures ∙ ap (λ (ls : List LineReport). flat_map (report_text m) (map report_of ls)) c.as_slice.ensures.value)
    (c.in_ok-extend_from_slice-in-Ok.ensures.items ∙ ap (λ (l : List ℕ). told ++ l) c.as_slice-in-Ok.ensures.value)
    (spells c.in-Ok.text.items _ c.in-Ok.ensures.reads_back)
