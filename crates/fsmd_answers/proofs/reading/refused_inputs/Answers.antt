use Rattle.std.proofs.Common.{refl}
use Rattle.fs_inputs.specs.declared.faults.Fault.TheVariants.{Shape, Unknown, TooBig}
use Rattle.fsmd_answers.specs.JsonKeys.{ByJson}
use Rattle.fsmd_answers.specs.InputFiles.{HasInputFault}
use Rattle.fsmd_answers.proofs.ByBytes.{at_key}
use Rattle.fsmd_answers.proofs.reading.refused_inputs.Goals as goal

pub returns-in-NotJson : goal.returns-in-NotJson
returns-in-NotJson c = λ m bytes few h. let f = rw c.in-NotJson.is at h in ByJson (record { few = few; refused = f }) refl

pub returns-in-Shape : goal.returns-in-Shape
returns-in-Shape c = λ m bytes few h.
    let f = rw c.in-Shape.is at h in
    at_key (HasInputFault m) c.args.file bytes _ _ _ (record { few = few; kind = Shape; is = refl; faulty = f }) c.refused_at.ensures

pub returns-in-UnknownName : goal.returns-in-UnknownName
returns-in-UnknownName c = λ m bytes few h.
    let f = rw c.in-UnknownName.is at h in
    at_key (HasInputFault m) c.args.file bytes _ _ _ (record { few = few; kind = Unknown; is = refl; faulty = f }) c.refused_at-in-UnknownName.ensures

pub returns-in-NumberTooBig : goal.returns-in-NumberTooBig
returns-in-NumberTooBig c = λ m bytes few h.
    let f = rw c.in-NumberTooBig.is at h in
    at_key (HasInputFault m) c.args.file bytes _ _ _ (record { few = few; kind = TooBig; is = refl; faulty = f }) c.refused_at-in-NumberTooBig.ensures
