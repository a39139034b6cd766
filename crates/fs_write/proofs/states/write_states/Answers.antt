use Rattle.std.proofs.Common.{map, refl}
use Rattle.std.specs.List.{flat_map, list_all}
use Rattle.fs_model.specs.View.{source_state_of}
use Rattle.fs_write.specs.Canonical.{state_text}
use Rattle.fs_write.specs.Spellable.{is_spellable_state}
use Rattle.fs_write.proofs.Loops.{text_more, text_whole, words_more, words_whole, all_and_mapped}
use Rattle.fs_write.proofs.states.write_states.Goals as goal

pub loop-state-preserved : goal.loop-state-preserved
loop-state-preserved c =
    let xs = c.args.states.now in
    let i = c.loop-state.state-index in
    let x = c.state-item.result in
    let h = c.loop-state-test.true in
    let is = c.state-item.is in
    let written = c.in_ok-write_state.ensures in (
      text_more (λ ys. flat_map state_text (map source_state_of ys)) (λ y. state_text (source_state_of y)) (λ y ys. refl)
          c.loop-state.out.items _ _ xs i x h is written.text c.loop-state.invariant.0,
      words_more (λ ys. list_all is_spellable_state (map source_state_of ys)) (λ y. is_spellable_state (source_state_of y))
          (all_and_mapped is_spellable_state source_state_of) xs i x h is c.loop-state.invariant.1 written.words,
    )

pub returns-clause-text : goal.returns-clause-text
returns-clause-text c =
    text_whole (λ ys. flat_map state_text (map source_state_of ys)) refl c.loop-state.out.items _ c.args.states.now c.loop-state.state-index
    c.loop-state-test.false c.loop-state.invariant.0

pub returns-clause-words : goal.returns-clause-words
returns-clause-words c =
    words_whole (λ ys. list_all is_spellable_state (map source_state_of ys)) c.args.states.now c.loop-state.state-index c.loop-state-test.false
    c.loop-state.invariant.1
