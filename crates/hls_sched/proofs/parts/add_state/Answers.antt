use Rattle.std.proofs.Common.{◌∙◌, ap, sym, map}
use Rattle.std.specs.Option.{option_map}
use Rattle.std.proofs.lemmas.Result.{on_ok_weaker}
use Rattle.fs_model.specs.View.{source_state_of, source_of}
use Rattle.hls_block_filling.specs.SourceRows.{first_row_effect}
use Rattle.hls_sched.specs.RowMoves.{done_by, move_of}
use Rattle.hls_sched.proofs.Copied.{state_is, row_added, state_added, none_added}
use Rattle.hls_sched.proofs.parts.add_state.Goals as goal

pub returns-in-Some : goal.returns-in-Some
returns-in-Some c =
    let p = source_of c.args.parts.now in
    let q = c.args.state.0 in
    let rows = first_row_effect (map (move_of p) c.args.moves.now) in
    let here = state_is c.args.parts.now.states.items q c.index-old.result.now c.requires.state c.index-old.ensures in
    on_ok_weaker c.push_made.result
    (λ a. row_added p c.args.m.now rows q (source_state_of c.index-old.result.now) _ here (c.move_of_state.ensures.found p)
    (done_by p c.in-Some.by.now) c.moved_state.result _ _ (ap (option_map (λ x. done_by p x.now)) c.in-Some.is) c.moved_state.ensures a)
    c.push_made.ensures

pub returns-then-is_in_block : goal.returns-then-is_in_block
returns-then-is_in_block c =
    let p = source_of c.args.parts.now in
    let q = c.args.state.0 in
    let rows = first_row_effect (map (move_of p) c.args.moves.now) in
    let here = state_is c.args.parts.now.states.items q c.index-old.result.now c.requires.state c.index-old.ensures in
    none_added p c.args.m.now rows q (source_state_of c.index-old.result.now) _ here (c.move_of_state.ensures.found p)
    (map source_state_of c.args.out.now.items) (ap (option_map (λ x. done_by p x.now)) c.in-None.is) (sym c.is_in_block.ensures ∙ c.if-is_in_block.true)

pub returns-else-is_in_block : goal.returns-else-is_in_block
returns-else-is_in_block c =
    let p = source_of c.args.parts.now in
    let q = c.args.state.0 in
    let rows = first_row_effect (map (move_of p) c.args.moves.now) in
    let here = state_is c.args.parts.now.states.items q c.index-old.result.now c.requires.state c.index-old.ensures in
    on_ok_weaker c.push_made-else-is_in_block.result
    (λ a. state_added p c.args.m.now rows q (source_state_of c.index-old.result.now) _ here (c.move_of_state.ensures.found p)
    c.copied_state.result _ _ (ap (option_map (λ x. done_by p x.now)) c.in-None.is) (sym c.is_in_block.ensures ∙ c.if-is_in_block.false)
    c.copied_state.ensures a)
    c.push_made-else-is_in_block.ensures
