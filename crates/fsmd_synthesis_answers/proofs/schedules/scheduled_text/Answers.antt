use Rattle.fs_model.specs.View.{source_of}
use Rattle.hls_unit_counts.specs.Counts.{units_in}
use Rattle.fsmd_synthesis_answers.proofs.Scheduled.{is_schedule}
use Rattle.fsmd_synthesis_answers.proofs.schedules.scheduled_text.Goals as goal

pub returns-in-Ok-clause-scheduled : goal.returns-in-Ok-clause-scheduled
returns-in-Ok-clause-scheduled c =
    let s = c.in_ok-scheduled.ensures in
    is_schedule (units_in c.args.units.now) (source_of c.args.parts.now) c.args.machine.now
    (source_of c.in_ok-scheduled.scheduled.parts) c.in_ok-scheduled.scheduled.machine c.in_ok-scheduled.scheduled.lines.items
    c.in-Ok.text.items c.requires.spelled s.fits s.parts s.lawful s.spelled s.machine s.behaves s.within s.lines s.lengths c.in-Ok.ensures.text
    c.in-Ok.ensures.spells
