use Rattle.fs_model.specs.View.{source_state_of}
use Rattle.fs_generated.specs.Sides.{round_of}
use Rattle.fs_generated.proofs.Lists.{flat_map_grows}
use Rattle.fs_generated.proofs.states.states.Goals as goal

pub loop-k-preserved : goal.loop-k-preserved
loop-k-preserved c = flat_map_grows source_state_of (round_of c.args.side) c.loop-k.k _ _ _ c.loop-k.invariant c.in_ok-append.ensures.items
    c.in_ok-round.ensures
