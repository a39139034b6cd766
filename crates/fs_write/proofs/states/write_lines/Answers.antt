use Rattle.std.proofs.Common.{map, refl}
use Rattle.std.specs.List.{flat_map, list_all}
use Rattle.fs_model.specs.View.{source_transition_of}
use Rattle.fs_write.specs.Canonical.{line_text}
use Rattle.fs_write.specs.Spellable.{is_spellable_transition}
use Rattle.fs_write.proofs.Loops.{text_more, text_whole, words_more, words_whole, all_and_mapped}
use Rattle.fs_write.proofs.states.write_lines.Goals as goal

pub loop-line-preserved : goal.loop-line-preserved
loop-line-preserved c =
    let xs = c.args.lines.now in
    let i = c.loop-line.line-index in
    let x = c.line-item.result in
    let h = c.loop-line-test.true in
    let is = c.line-item.is in
    let written = c.in_ok-write_line.ensures in (
      text_more (λ ys. flat_map line_text (map source_transition_of ys)) (λ y. line_text (source_transition_of y)) (λ y ys. refl)
          c.loop-line.out.items _ _ xs i x h is written.text c.loop-line.invariant.0,
      words_more (λ ys. list_all is_spellable_transition (map source_transition_of ys)) (λ y. is_spellable_transition (source_transition_of y))
          (all_and_mapped is_spellable_transition source_transition_of) xs i x h is c.loop-line.invariant.1 written.words,
    )

pub returns-clause-text : goal.returns-clause-text
returns-clause-text c =
    text_whole (λ ys. flat_map line_text (map source_transition_of ys)) refl c.loop-line.out.items _ c.args.lines.now c.loop-line.line-index
    c.loop-line-test.false c.loop-line.invariant.0

pub returns-clause-words : goal.returns-clause-words
returns-clause-words c =
    words_whole (λ ys. list_all is_spellable_transition (map source_transition_of ys)) c.args.lines.now c.loop-line.line-index c.loop-line-test.false
    c.loop-line.invariant.1
