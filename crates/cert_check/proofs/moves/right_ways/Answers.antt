use Rattle.std.proofs.Common.{◌+◌, ◌≤◌, ◌∷◌, [], map, drop, ap, subst, arith}
use Rattle.fs_model.proofs.Lists.{map_drop_next}
use Rattle.fs_cut.specs.Paths.{Path}
use Rattle.nf_terms.specs.Computed.{Computed}
use Rattle.sym_paths.specs.Execution.{Post}
use Rattle.sym_entailment.specs.Outcomes.{way_in}
use Rattle.cert_model.specs.View.{node_of}
use Rattle.cert_check.specs.View.{ways_in, progress_in, verdict_in, NumberUpTo}
use Rattle.cert_check.proofs.Steps.{left_held, left_stop}
use Rattle.cert_check.proofs.moves.right_ways.Goals as goal

pub returns-in-Stopped-clause-moves : goal.returns-in-Stopped-clause-moves
returns-in-Stopped-clause-moves c =
    let judged = λ (w : Path × Computed Post). ways_in c.args.table.now (node_of c.args.node.now) (way_in c.args.left.now) w in
    let all = c.args.rights.now in
    let i = c.loop-right.right-index in
    left_stop c.loop-right.number (verdict_in c.in-Stopped.verdict) (judged (way_in c.right-item.result) ∷ []) (map judged (map way_in (drop (i + 1) all)))
    (map judged (map way_in (drop i all))) (map judged (map way_in all)) c.args.first (progress_in c.in_ok-next.field-0)
    (ap (map judged) (map_drop_next way_in all i c.right-item.result c.loop-right-test.true c.right-item.is)) (ap progress_in c.in-Stopped.is)
    (c.in_ok-next.ensures.next _ c.judge_ways.ensures) c.loop-right.invariant.rest

pub loop-right-preserved : goal.loop-right-preserved
loop-right-preserved c =
    let judged = λ (w : Path × Computed Post). ways_in c.args.table.now (node_of c.args.node.now) (way_in c.args.left.now) w in
    let all = c.args.rights.now in
    let i = c.loop-right.right-index in
    let b : c.in-Held.next ≤ c.loop-right.number + 1 = subst (NumberUpTo (c.loop-right.number + 1)) c.in-Held.is c.in_ok-next.ensures.bound in
    record {
      low = omega (arith, c.loop-right.invariant.low, b);
      rest = left_held c.loop-right.number c.in-Held.next (judged (way_in c.right-item.result) ∷ []) (map judged (map way_in (drop (i + 1) all)))
          (map judged (map way_in (drop i all))) (map judged (map way_in all)) c.args.first (progress_in c.in_ok-next.field-0)
          (ap (map judged) (map_drop_next way_in all i c.right-item.result c.loop-right-test.true c.right-item.is)) (ap progress_in c.in-Held.is)
          (c.in_ok-next.ensures.next _ c.judge_ways.ensures) c.loop-right.invariant.rest;
    }
