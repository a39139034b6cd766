use Rattle.std.proofs.Common.{◌∙◌, ap, sym, subst}
use Rattle.std.specs.Prelude.{map}
use Rattle.fs_runs.specs.Outcomes.{output_names, told_by, HoldsEach}
use Rattle.fs_run_text.specs.ItemTexts.{AreItems}
use Rattle.fs_run_text.specs.EndTexts.{counterexample_text}
use Rattle.fs_run_text.proofs.Interfaces.{holds_there}
use Rattle.fs_run_text.proofs.Told.{is_text}
use Rattle.fs_run_text.proofs.counterexample.counterexample_text.Goals as goal

pub items-requires-2 : goal.items-requires-2
items-requires-2 c =
    subst (λ vs. HoldsEach (told_by c.args.right.now vs) (output_names c.args.left.now.variables)) (sym c.as_slice-2.ensures.value)
    (holds_there c.args.left.now c.args.right.now (told_by c.args.right.now c.args.right_end.now.outputs.items) c.requires.interfaces c.requires.right_outputs)

pub returns : goal.returns
returns c =
    let a = c.args.left.now in
    let b = c.args.right.now in
    let ns = output_names a.variables in
    let items = map (λ i. i.items) c.in_ok-given.given.items in
    let lefts = map (λ i. i.items) c.in_ok-lefts.lefts.items in
    let rights = map (λ i. i.items) c.in_ok-rights.rights.items in
    is_text c.joined_text.result _ _ _ _ _ items lefts rights _ c.in_ok-given.ensures
    (subst (λ vs. AreItems (told_by a vs) ns lefts) c.as_slice.ensures.value c.in_ok-lefts.ensures)
    (subst (λ vs. AreItems (told_by b vs) ns rights) c.as_slice-2.ensures.value c.in_ok-rights.ensures)
    (ap (λ xs. counterexample_text (map (λ i. i.items) xs) (map (λ i. i.items) c.as_slice-4.result.now) (map (λ i. i.items) c.as_slice-5.result.now))
    c.as_slice-3.ensures.value
    ∙ ap (λ xs. counterexample_text items (map (λ i. i.items) xs) (map (λ i. i.items) c.as_slice-5.result.now)) c.as_slice-4.ensures.value
    ∙ ap (λ xs. counterexample_text items lefts (map (λ i. i.items) xs)) c.as_slice-5.ensures.value)
    c.joined_text.ensures
