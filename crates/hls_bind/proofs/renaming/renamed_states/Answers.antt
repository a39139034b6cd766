use Rattle.std.proofs.Common.{[], map}
use Rattle.fs_model.specs.View.{source_state_of}
use Rattle.hls_bind.specs.Bindings.{state_renamed}
use Rattle.hls_bind.specs.BindingEntries.{name_for}
use Rattle.fs_model.proofs.Lists.{of_whole}
use Rattle.fs_model.proofs.Adding.{map_push_made}
use Rattle.hls_bind.proofs.Filled.{more_of}
use Rattle.hls_bind.proofs.renaming.renamed_states.Goals as goal

pub loop-state-preserved : goal.loop-state-preserved
loop-state-preserved c =
    let r = state_renamed (name_for c.args.registers.now) in
    more_of r source_state_of [] c.args.states.now c.loop-state.state-index c.state-item.result _ _ c.loop-state-test.true c.state-item.is
    (map_push_made source_state_of c.renamed_state.result _ _ (r (source_state_of c.state-item.result)) c.in_ok-push_made.ensures c.renamed_state.ensures)
    c.loop-state.invariant

pub returns : goal.returns
returns c =
    let r = state_renamed (name_for c.args.registers.now) in
    of_whole (λ xs. map r (map source_state_of xs)) c.args.states.now c.loop-state.state-index _ c.loop-state-test.false c.loop-state.invariant
