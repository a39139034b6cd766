use Rattle.std.proofs.Common.{◌≡◌, Some, sym, ap, ◌∙◌, string_bytes}
use Rattle.std.proofs.lemmas.Result.{on_ok_weaker}
use Rattle.serde_json.specs.View.{view}
use Rattle.fs_stores.specs.InputValues.{signatures_of, sort_named}
use Rattle.fs_inputs.specs.Steps.{input_place}
use Rattle.fs_inputs.proofs.Places.{gives, sort_there}
use Rattle.fs_inputs.proofs.files.give.Goals as goal

pub give_at-requires-clause-sort : goal.give_at-requires-clause-sort
give_at-requires-clause-sort c =
    let name = c.as_bytes.result.now in
    let signatures = c.requires.signatures in
    sort_there (signatures_of c.args.inputs.now) name c.in-Some.place c.in-Some.sort
    (ap (λ fs. input_place fs name) signatures ∙ sym c.in-Some.ensures.place)
    (ap (λ fs. sort_named fs name) signatures ∙ sym c.in-Some.ensures.sort)

pub returns-clause-given : goal.returns-clause-given
returns-clause-given c =
    let name = string_bytes c.args.name.now in
    let place : input_place (signatures_of c.args.inputs.now) name ≡ Some c.in-Some.place =
    ap (λ fs. input_place fs name) c.requires.signatures ∙ (ap (input_place _) (sym c.as_bytes.ensures.value) ∙ sym c.in-Some.ensures.place) in
    on_ok_weaker c.give_at.result
    (λ h. gives c.args.inputs.now c.give_at.new.inputs c.in-Some.place name (view c.args.value.now) c.give_at.ensures.signatures place h)
    c.give_at.ensures.given
