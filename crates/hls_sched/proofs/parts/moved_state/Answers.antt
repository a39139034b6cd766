use Rattle.std.proofs.Common.{◌∙◌, [], ◌∷◌, ◌++◌, ap, map}
use Rattle.fs_model.specs.Source.{SourceTransition}
use Rattle.fs_model.specs.View.{source_transition_of, source_state_of, source_of}
use Rattle.hls_sched.specs.RowMoves.{done_by, transition_with_row}
use Rattle.fs_model.proofs.Adding.{map_push_made}
use Rattle.hls_sched.proofs.Copied.{row_is}
use Rattle.hls_sched.proofs.parts.moved_state.Goals as goal

pub returns : goal.returns
returns c =
    let p = source_of c.args.parts.now in
    let d = done_by p c.args.by.now in
    let row : SourceTransition = transition_with_row p c.args.state.now.line d in
    row_is p (source_state_of c.args.state.now) d _ _
    (map_push_made source_transition_of c.transition_of.result _ _ row c.in_ok-push_made.ensures c.transition_of.ensures
    ∙ ap (λ ls. map source_transition_of ls ++ row ∷ []) c.new-lines.ensures.items)
    c.in_ok-try_clone.ensures
