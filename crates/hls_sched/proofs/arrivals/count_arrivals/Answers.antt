use Rattle.std.proofs.Common.{◌≡◌, ◌∙◌, ap, map, length, arith}
use Rattle.fs_model.specs.View.{branch_of}
use Rattle.hls_sched.specs.Arrivals.{arrivals_of}
use Rattle.hls_sched.proofs.Noting.{first_sources, sources_more}
use Rattle.hls_sched.proofs.arrivals.count_arrivals.Goals as goal

pub loop-q-preserved : goal.loop-q-preserved
loop-q-preserved c =
    let m = c.args.m.now in
    let q = c.loop-q.q in
    let old = c.loop-q.invariant in
    record {
      all = old.all;
      count = c.arrive_all.ensures.count ∙ old.count;
      known = λ r h. c.arrive_all.ensures.known r (first_sources m q r) (omega (arith, h, old.count)) (old.known r h)
          ∙ ap arrivals_of (sources_more m q r (map branch_of c.branches.result.now) c.branches.ensures.branches);
    }

pub returns : goal.returns
returns c =
    let m = c.args.m.now in
    let e : c.loop-q.q ≡ length m.states = omega (arith, c.loop-q-test.false, c.loop-q.auto.q-end, c.loop-q.invariant.all) in
    record { count = c.loop-q.invariant.count; known = λ r h. c.loop-q.invariant.known r h ∙ ap (λ k. arrivals_of (first_sources m k r)) e }
