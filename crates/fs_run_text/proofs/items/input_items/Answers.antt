use Rattle.std.proofs.Common.{◌≡◌, ◌+◌, ◌≤◌, [], ◌∷◌, ◌++◌, length, sym, ◌∙◌, ap, subst, arith}
use Rattle.std.specs.Option.{option_map}
use Rattle.std.proofs.lemmas.List.{map-append}
use Rattle.std.specs.Prelude.{map, slice_get, Some}
use Rattle.std.proofs.lemmas.Option.{slice_get-map}
use Rattle.fs_stores.specs.Values.{content_of}
use Rattle.fs_stores.specs.InputValues.{input_values}
use Rattle.fs_run_text.specs.ItemTexts.{input_names}
use Rattle.fs_run_text.proofs.Told.{Steps, first_step, names_many, has_number, one_told, none_told, all_told}
use Rattle.fs_run_text.proofs.items.input_items.Goals.{then-is_input+in_ok-item+in_ok-push, else-is_input}
use Rattle.fs_run_text.proofs.items.input_items.Goals as goal

pub loop-variable-init : goal.loop-variable-init
loop-variable-init c =
    let names = input_names c.args.m.now.variables in
    let cs = map content_of (input_values c.args.inputs.now) in
    subst (λ items. Steps names cs (map (λ i. i.items) items) c.vars-variable-items.result.now 0 0) (sym c.new-items.ensures.items)
    (first_step names cs c.vars-variable-items.result.now (ap input_names (sym c.vars-variable-items.ensures.vars))
    (names_many c.args.inputs.now c.args.m.now.variables c.requires))

pub get-requires : goal.get-requires
get-requires c = has_number _ c.args.inputs.now _ c.vars-variable-items.result.now c.loop-variable.variable-index c.loop-variable.k c.variable-item.result
    c.loop-variable.invariant c.loop-variable-test.true c.variable-item.is (sym (c.if-is_input.ensures))

pub overflow_add-k : goal.overflow_add-k
overflow_add-k c =
    let few : length c.args.m.now.variables ≤ 128 = c.vars-variable-items.ensures.sound.few_variables in
    omega (arith, c.loop-variable.invariant.counted, ap length c.vars-variable-items.ensures.vars)

pub loop-variable-preserved : goal.loop-variable-preserved
loop-variable-preserved c =
    let names = input_names c.args.m.now.variables in
    let values = input_values c.args.inputs.now in
    let cs = map content_of values in
    let items = map (λ i. i.items) c.loop-variable.items.items in
    let vs = c.vars-variable-items.result.now in
    elim c.if-is_input.branch [
      | then-is_input+in_ok-item+in_ok-push w ↦
          let t = w.in_ok-item.ensures in
          let there : slice_get cs c.loop-variable.k ≡ Some (content_of w.get.result.now) = slice_get-map content_of values c.loop-variable.k
          ∙ ap (option_map content_of) w.get.ensures in
          let added = one_told names cs items vs c.loop-variable.variable-index c.loop-variable.k c.variable-item.result
          (content_of w.get.result.now) w.in_ok-item.field-0.items c.loop-variable.invariant c.loop-variable-test.true c.variable-item.is
          (sym (w.if-is_input.ensures)) there (record { text = t.0; shown = t.1; spelled = t.2 }) in
          let are : items ++ w.in_ok-item.field-0.items ∷ [] ≡ map (λ i. i.items) c.if-is_input.items.items =
          sym (ap (λ x. map (λ i. i.items) x.items) w.items-is ∙ ap (map (λ i. i.items)) (w.in_ok-push.ensures)
          ∙ map-append (λ i. i.items) c.loop-variable.items.items (w.in_ok-item.field-0 ∷ [])) in
          subst (λ xs. Steps names cs xs vs (c.loop-variable.variable-index + 1) c.if-is_input.k) are
          (subst (λ k. Steps names cs (items ++ w.in_ok-item.field-0.items ∷ []) vs (c.loop-variable.variable-index + 1) k) (sym w.k-is) added)
      | else-is_input w ↦
          let kept = none_told names cs items vs c.loop-variable.variable-index c.loop-variable.k c.variable-item.result c.loop-variable.invariant
          c.loop-variable-test.true c.variable-item.is (sym (w.if-is_input.ensures)) in
          subst (λ x. Steps names cs (map (λ i. i.items) x.items) vs (c.loop-variable.variable-index + 1) c.if-is_input.k) (sym w.items-is)
          (subst (λ k. Steps names cs items vs (c.loop-variable.variable-index + 1) k) (sym w.k-is) kept)
    ]

pub returns : goal.returns
returns c = all_told (input_names c.args.m.now.variables) (map content_of (input_values c.args.inputs.now))
    (map (λ i. i.items) c.loop-variable.items.items) c.vars-variable-items.result.now c.loop-variable.variable-index c.loop-variable.k c.loop-variable.invariant
    c.loop-variable-test.false
