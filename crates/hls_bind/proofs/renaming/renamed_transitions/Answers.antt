use Rattle.std.proofs.Common.{[], map}
use Rattle.fs_model.specs.View.{source_transition_of}
use Rattle.hls_bind.specs.Bindings.{transition_renamed}
use Rattle.hls_bind.specs.BindingEntries.{name_for}
use Rattle.fs_model.proofs.Lists.{of_whole}
use Rattle.fs_model.proofs.Adding.{map_push_made}
use Rattle.hls_bind.proofs.Filled.{more_of}
use Rattle.hls_bind.proofs.renaming.renamed_transitions.Goals as goal

pub loop-line-preserved : goal.loop-line-preserved
loop-line-preserved c =
    let r = transition_renamed (name_for c.args.registers.now) in
    more_of r source_transition_of [] c.args.lines.now c.loop-line.line-index c.line-item.result _ _ c.loop-line-test.true c.line-item.is
    (map_push_made source_transition_of c.renamed_transition.result _ _ (r (source_transition_of c.line-item.result)) c.in_ok-push_made.ensures
    c.renamed_transition.ensures)
    c.loop-line.invariant

pub returns : goal.returns
returns c =
    let r = transition_renamed (name_for c.args.registers.now) in
    of_whole (λ xs. map r (map source_transition_of xs)) c.args.lines.now c.loop-line.line-index _ c.loop-line-test.false c.loop-line.invariant
