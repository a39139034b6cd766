use Rattle.std.proofs.Common.{FitsSigned, string_bytes, rules, ap, ◌∙◌, sym}
use Rattle.std.specs.Int.{w128}
use Rattle.std.proofs.lemmas.Int.{to_z-of_z}
use Rattle.std.proofs.lemmas.Result.{on_ok_weaker}
use Rattle.serde_json.specs.View.{view}
use Rattle.fs_inputs.specs.Numbers.{number_in, number_reading}
use Rattle.fs_inputs.proofs.Steps.{puts}
use Rattle.fs_inputs.proofs.values.put.Goals as goal

pub returns : goal.returns
returns c =
    let low : FitsSigned w128 c.number-i.result = search rules in
    let high : FitsSigned w128 c.number-v.result = search rules in
    let index = ap (λ t. number_reading (number_in t)) (sym c.as_bytes.ensures.value) ∙ (sym c.read_number.ensures ∙ c.number-i.ensures) in
    let number = sym c.read_value.ensures ∙ c.number-v.ensures in
    on_ok_weaker c.set.result
    (λ h. puts (string_bytes c.args.name.now) (view c.args.value.now) c.args.entries.now c.set.new.self c.number-i.result c.number-v.result index number
    (simp to_z-of_z at h)) c.set.ensures.set
