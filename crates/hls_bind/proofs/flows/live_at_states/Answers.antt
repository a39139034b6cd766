use Rattle.hls_bind.proofs.Alive.{inside_at, live_at}
use Rattle.hls_bind.proofs.flows.live_at_states.Goals as goal

pub live_sets-requires : goal.live_sets-requires
live_sets-requires c =
    record {
      inside = inside_at c.args.m.now c.in_ok-flows.flows.items c.as_slice.result.now c.state_count.result c.state_count.ensures.sound c.in_ok-flows.ensures
          c.as_slice.ensures.value c.state_count.ensures.count;
    }

pub returns-clause-live : goal.returns-clause-live
returns-clause-live c = live_at c.args.m.now c.in_ok-flows.flows.items c.as_slice.result.now c.in_ok-sets.sets.items c.reset.result.0 c.in_ok-flows.ensures
    c.as_slice.ensures.value c.reset.ensures.reset c.in_ok-sets.ensures.exact
