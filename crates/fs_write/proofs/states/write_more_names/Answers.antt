use Rattle.std.proofs.Common.{List, ℕ, ◌++◌, refl, ap, ◌∙◌}
use Rattle.std.specs.Prelude.{codes}
use Rattle.std.specs.List.{flat_map, list_all}
use Rattle.fs_model.specs.Words.{is_name}
use Rattle.fs_write.specs.Canonical.{after_comma}
use Rattle.fs_write.proofs.Loops.{text_more, text_whole, words_more, words_whole, all_and_last}
use Rattle.fs_write.proofs.states.write_more_names.Goals as goal

pub loop-name-preserved : goal.loop-name-preserved
loop-name-preserved c =
    let xs = c.args.names.now in
    let i = c.loop-name.name-index in
    let x = c.name-item.result in
    let h = c.loop-name-test.true in
    let old = c.loop-name.out.items in
    let text = c.in_ok-write_two.ensures ∙ ap (λ (l : List ℕ). old ++ (codes ", " ++ l)) c.bytes.ensures.bytes in (
      text_more (λ ys. flat_map after_comma ys) after_comma (λ y ys. refl) old _ _ xs i x h c.name-item.is text c.loop-name.invariant.0,
      words_more (λ ys. list_all is_name ys) is_name (all_and_last is_name) xs i x h c.name-item.is c.loop-name.invariant.1 c.bytes.ensures.word,
    )

pub returns-clause-text : goal.returns-clause-text
returns-clause-text c =
    text_whole (λ ys. flat_map after_comma ys) refl c.loop-name.out.items _ c.args.names.now c.loop-name.name-index c.loop-name-test.false
    c.loop-name.invariant.0

pub returns-clause-words : goal.returns-clause-words
returns-clause-words c = words_whole (λ ys. list_all is_name ys) c.args.names.now c.loop-name.name-index c.loop-name-test.false c.loop-name.invariant.1
