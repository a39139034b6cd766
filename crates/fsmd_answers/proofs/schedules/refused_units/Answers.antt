use Rattle.std.proofs.Common.{refl}
use Rattle.hls_unit_counts.specs.declared.faults.Fault.TheVariants.{Shape, Unknown}
use Rattle.fsmd_answers.specs.JsonKeys.{ByJson}
use Rattle.fsmd_answers.specs.ScheduleFiles.{HaveUnitFault}
use Rattle.fsmd_answers.proofs.ByBytes.{at_key}
use Rattle.fsmd_answers.proofs.schedules.refused_units.Goals as goal

pub returns-in-NotJson : goal.returns-in-NotJson
returns-in-NotJson c = λ bytes few h. let f = rw c.in-NotJson.is at h in ByJson (record { few = few; refused = f }) refl

pub returns-in-Shape : goal.returns-in-Shape
returns-in-Shape c = λ bytes few h.
    let f = rw c.in-Shape.is at h in
    at_key HaveUnitFault c.args.file bytes _ _ _ (record { few = few; kind = Shape; is = refl; faulty = f }) c.refused_at.ensures

pub returns-in-UnknownName : goal.returns-in-UnknownName
returns-in-UnknownName c = λ bytes few h.
    let f = rw c.in-UnknownName.is at h in
    at_key HaveUnitFault c.args.file bytes _ _ _ (record { few = few; kind = Unknown; is = refl; faulty = f }) c.refused_at-in-UnknownName.ensures
