use Rattle.std.proofs.Common.{refl}
use Rattle.hls_bind.specs.declared.faults.Fault.TheVariants.{Unknown, Shape, BadName, Taken}
use Rattle.fsmd_answers.specs.JsonKeys.{ByJson}
use Rattle.fsmd_answers.specs.BindingFiles.{HasBindingFault}
use Rattle.fsmd_answers.proofs.ByBytes.{at_key}
use Rattle.fsmd_answers.proofs.bindings.refused_binding.Goals as goal

pub returns-in-NotJson : goal.returns-in-NotJson
returns-in-NotJson c = λ m bytes few h. let f = rw c.in-NotJson.is at h in ByJson (record { few = few; refused = f }) refl

pub returns-in-Shape : goal.returns-in-Shape
returns-in-Shape c = λ m bytes few h.
    let f = rw c.in-Shape.is at h in
    at_key (HasBindingFault m) c.args.file bytes _ _ _ (record { few = few; kind = Shape; is = refl; faulty = f }) c.refused_at.ensures

pub returns-in-UnknownName : goal.returns-in-UnknownName
returns-in-UnknownName c = λ m bytes few h.
    let f = rw c.in-UnknownName.is at h in
    at_key (HasBindingFault m) c.args.file bytes _ _ _ (record { few = few; kind = Unknown; is = refl; faulty = f }) c.refused_at-in-UnknownName.ensures

pub returns-in-BadName : goal.returns-in-BadName
returns-in-BadName c = λ m bytes few h.
    let f = rw c.in-BadName.is at h in
    at_key (HasBindingFault m) c.args.file bytes _ _ _ (record { few = few; kind = BadName; is = refl; faulty = f }) c.refused_at-in-BadName.ensures

pub returns-in-Taken : goal.returns-in-Taken
returns-in-Taken c = λ m bytes few h.
    let f = rw c.in-Taken.is at h in
    at_key (HasBindingFault m) c.args.file bytes _ _ _ (record { few = few; kind = Taken; is = refl; faulty = f }) c.refused_at-in-Taken.ensures
