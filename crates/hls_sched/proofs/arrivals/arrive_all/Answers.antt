use Rattle.std.proofs.Common.{◌++◌, ◌∙◌, ap, map, take, arith}
use Rattle.fs_model.specs.View.{branch_of}
use Rattle.std.proofs.lemmas.List.{take_all}
use Rattle.hls_sched.specs.Arrivals.{arrivals_of, source_per_branch}
use Rattle.hls_sched.proofs.Noting.{leading_more}
use Rattle.hls_sched.proofs.arrivals.arrive_all.Goals as goal

pub loop-branch-preserved : goal.loop-branch-preserved
loop-branch-preserved c =
    let q = c.args.from.0 in
    let i = c.loop-branch.branch-index in
    let bs = c.args.branches.now in
    let old = c.loop-branch.invariant in
    record {
      count = c.arrive.ensures.count ∙ old.count;
      known = λ r qs h e. c.arrive.ensures.known r (qs ++ source_per_branch q r (map branch_of (take i bs))) (omega (arith, h, old.count)) (old.known r qs h e)
          ∙ ap arrivals_of (leading_more q r i bs c.branch-item.result qs c.loop-branch-test.true c.branch-item.is);
    }

pub returns-clause-known : goal.returns-clause-known
returns-clause-known c = λ r qs h e.
    c.loop-branch.invariant.known r qs h e ∙ ap (λ bs. arrivals_of (qs ++ source_per_branch c.args.from.0 r (map branch_of bs)))
    (take_all c.loop-branch.branch-index c.args.branches.now c.loop-branch-test.false)
