use Rattle.std.proofs.Common.{List, ℕ, ◌++◌, map, refl, ap, ◌∙◌, append_assoc}
use Rattle.std.specs.Prelude.{codes}
use Rattle.std.specs.List.{flat_map, list_all}
use Rattle.fs_model.specs.View.{named_assignment}
use Rattle.fs_write.specs.Canonical.{after_comma, assignment_text}
use Rattle.fs_write.specs.Spellable.{is_spellable_assignment}
use Rattle.fs_write.proofs.Loops.{text_more, text_whole, words_more, words_whole, all_and_mapped}
use Rattle.fs_write.proofs.states.write_more_assigns.Goals as goal

pub loop-assign-preserved : goal.loop-assign-preserved
loop-assign-preserved c =
    let xs = c.args.assigns.now in
    let i = c.loop-assign.assign-index in
    let x = c.assign-item.result in
    let h = c.loop-assign-test.true in
    let is = c.assign-item.is in
    let old = c.loop-assign.out.items in
    let one = assignment_text (named_assignment x) in
    let written = c.in_ok-write_assign.ensures in
    let text = written.text ∙ ap (λ (l : List ℕ). l ++ one) c.in_ok-extend_from_slice.ensures.items ∙ append_assoc old (codes ", ") one in (
      text_more (λ ys. flat_map after_comma (map assignment_text (map named_assignment ys))) (λ y. after_comma (assignment_text (named_assignment y)))
          (λ y ys. refl) old _ _ xs i x h is text c.loop-assign.invariant.0,
      words_more (λ ys. list_all is_spellable_assignment (map named_assignment ys)) (λ y. is_spellable_assignment (named_assignment y))
          (all_and_mapped is_spellable_assignment named_assignment) xs i x h is c.loop-assign.invariant.1 written.words,
    )

pub returns-clause-text : goal.returns-clause-text
returns-clause-text c =
    text_whole (λ ys. flat_map after_comma (map assignment_text (map named_assignment ys))) refl c.loop-assign.out.items _ c.args.assigns.now
    c.loop-assign.assign-index c.loop-assign-test.false c.loop-assign.invariant.0

pub returns-clause-words : goal.returns-clause-words
returns-clause-words c =
    words_whole (λ ys. list_all is_spellable_assignment (map named_assignment ys)) c.args.assigns.now c.loop-assign.assign-index c.loop-assign-test.false
    c.loop-assign.invariant.1
