use Rattle.std.proofs.Common.{◌∙◌, ap, sym, subst}
use Rattle.std.specs.Prelude.{map}
use Rattle.fs_runs.specs.Outcomes.{output_names, told_by, HoldsEach}
use Rattle.fs_run_text.specs.ItemTexts.{AreItems}
use Rattle.fs_run_text.specs.EndTexts.{replay_text}
use Rattle.fs_run_text.proofs.Interfaces.{holds_there}
use Rattle.fs_run_text.proofs.replay.replay_text.Goals as goal

pub items-requires-2 : goal.items-requires-2
items-requires-2 c =
    subst (λ vs. HoldsEach (told_by c.args.right.now vs) (output_names c.args.left.now.variables)) (sym c.as_slice-2.ensures.value)
    (holds_there c.args.left.now c.args.right.now (told_by c.args.right.now c.args.right_end.now.outputs.items) c.requires.interfaces c.requires.right_outputs)

pub returns-clause-text : goal.returns-clause-text
returns-clause-text c =
    let a = c.args.left.now in
    let b = c.args.right.now in
    let us = c.args.left_end.now.outputs.items in
    let vs = c.args.right_end.now.outputs.items in
    let ns = output_names a.variables in
    let lefts = map (λ i. i.items) c.in_ok-lefts.lefts.items in
    let rights = map (λ i. i.items) c.in_ok-rights.rights.items in
    record {
      same = c.in_ok-same.same;
      decided = c.in_ok-same.ensures;
      lefts = lefts;
      rights = rights;
      are_lefts = subst (λ vs. AreItems (told_by a vs) ns lefts) c.as_slice.ensures.value c.in_ok-lefts.ensures;
      are_rights = subst (λ vs. AreItems (told_by b vs) ns rights) c.as_slice-2.ensures.value c.in_ok-rights.ensures;
      spelled = c.in_ok-text.ensures
          ∙ ap (λ xs. replay_text c.in_ok-same.same (map (λ i. i.items) xs) (map (λ i. i.items) c.as_slice-4.result.now)) c.as_slice-3.ensures.value
          ∙ ap (λ xs. replay_text c.in_ok-same.same lefts (map (λ i. i.items) xs)) c.as_slice-4.ensures.value;
    }
