use Rattle.std.proofs.Common.{◌≡◌, ◌+◌, ◌-◌, ◌<◌, ◌∙◌, sym, ap, arith, length, true, false}
use Rattle.std.proofs.lemmas.List.{length_push}
use Rattle.hls_block_filling.specs.BasicBlocks.{follows, basic_block_at}
use Rattle.hls_sched.proofs.Tracing.{last_traced, one_traced, exit_stops, exit_goes, block_within, too_long}
use Rattle.hls_sched.proofs.blocks.trace_block.Goals as goal

pub returns-then-not-follows-clause-states : goal.returns-then-not-follows-clause-states
returns-then-not-follows-clause-states c =
    let m = c.args.m.now in
    let low : c.block.counter < length m.states = omega (arith, c.block-test.true, c.block.invariant.all) in
    let stops : follows m c.block.last.0 c.next-after.result.0 ≡ false = sym c.follows.ensures ∙ c.if-not-follows.true in
    last_traced m c.block.states.items c.push.new.self.items c.block.last (length m.states) c.block.counter c.next-after.result.0
    (basic_block_at m c.args.first.0) low c.next-after.ensures.next stops c.in_ok-push.ensures.items c.block.invariant.traced

pub returns-then-not-follows-clause-within : goal.returns-then-not-follows-clause-within
returns-then-not-follows-clause-within c = block_within c.args.m.now c.state_count-end.ensures.sound c.push.new.self.items c.args.first.0 c.requires.first
    (returns-then-not-follows-clause-states c)

pub returns-then-not-follows-clause-exit : goal.returns-then-not-follows-clause-exit
returns-then-not-follows-clause-exit c =
    let m = c.args.m.now in
    let low : c.block.counter < length m.states = omega (arith, c.block-test.true, c.block.invariant.all) in
    let stops : follows m c.block.last.0 c.next-after.result.0 ≡ false = sym c.follows.ensures ∙ c.if-not-follows.true in
    sym (exit_stops m (length m.states) c.block.counter c.block.last.0 c.next-after.result.0 low c.next-after.ensures.next stops) ∙ c.block.invariant.exit

pub block-preserved : goal.block-preserved
block-preserved c =
    let m = c.args.m.now in
    let n = length m.states in
    let old = c.block.invariant in
    let low : c.block.counter < n = omega (arith, c.block-test.true, old.all) in
    let goes : follows m c.block.last.0 c.next-after.result.0 ≡ true = sym c.follows.ensures ∙ c.if-not-follows.false in
    record {
      all = old.all;
      last_in = c.next-after.ensures.within;
      count = ap length c.in_ok-push.ensures.items ∙ length_push c.block.states.items c.block.last ∙ ap (λ k. k + 1) old.count;
      traced = one_traced m c.block.states.items c.push.new.self.items c.block.last n c.block.counter c.next-after.result.0
          (basic_block_at m c.args.first.0) low c.next-after.ensures.next goes c.in_ok-push.ensures.items old.traced;
      exit = sym (exit_goes m n c.block.counter c.block.last.0 c.next-after.result.0 low c.next-after.ensures.next goes) ∙ old.exit;
    }

pub unreachable-requires : goal.unreachable-requires
unreachable-requires c =
    let m = c.args.m.now in
    let n = length m.states in
    too_long m c.state_count-end.ensures.sound c.block.states.items (n - c.block.counter) c.args.first.0 c.block.last.0 c.requires.first
    (omega (arith, c.block-test.false, c.block.invariant.all, c.block.invariant.count)) c.block.invariant.traced
