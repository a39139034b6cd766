use Rattle.std.proofs.Common.{[], map}
use Rattle.fs_model.specs.View.{source_transition_of}
use Rattle.fs_model.proofs.Lists.{of_whole}
use Rattle.fs_model.proofs.Adding.{map_push_made}
use Rattle.hls_sched.proofs.Copied.{map_behind_start_grows}
use Rattle.hls_sched.proofs.copies.copied_transitions.Goals as goal

pub loop-line-preserved : goal.loop-line-preserved
loop-line-preserved c =
    map_behind_start_grows source_transition_of [] c.args.lines.now c.loop-line.line-index c.line-item.result _ _ c.loop-line-test.true c.line-item.is
    (map_push_made source_transition_of c.copied_transition.result _ _ (source_transition_of c.line-item.result) c.in_ok-push_made.ensures
    c.copied_transition.ensures) c.loop-line.invariant

pub returns : goal.returns
returns c = of_whole (map source_transition_of) c.args.lines.now c.loop-line.line-index _ c.loop-line-test.false c.loop-line.invariant
