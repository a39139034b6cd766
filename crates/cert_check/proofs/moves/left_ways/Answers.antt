use Rattle.std.proofs.Common.{◌+◌, ◌≤◌, map, drop, ap, subst, arith}
use Rattle.std.specs.List.{flat_map}
use Rattle.fs_cut.specs.Paths.{Path}
use Rattle.fs_model.proofs.Lists.{map_drop_next}
use Rattle.fs_model.specs.Limits.{most_branches}
use Rattle.fs_model.specs.declared.sides.Side.TheVariants.{Left}
use Rattle.fs_cut.specs.View.{path_of}
use Rattle.nf_terms.specs.Computed.{Computed}
use Rattle.sym_paths.specs.Execution.{Post}
use Rattle.sym_entailment.specs.Outcomes.{way_in}
use Rattle.cert_model.specs.View.{node_of}
use Rattle.cert_check.specs.View.{ways_in, way_of, progress_in, verdict_in, NumberUpTo}
use Rattle.cert_check.proofs.Steps.{left_held, left_stop}
use Rattle.cert_check.proofs.moves.left_ways.Goals as goal

pub returns-in-Stopped-clause-moves : goal.returns-in-Stopped-clause-moves
returns-in-Stopped-clause-moves c =
    let left = λ (p : Path). way_of c.args.table.now.a.now Left c.args.v.now p in
    let n = node_of c.args.node.now in
    let judged = (λ (p : Path). map (λ (w : Path × Computed Post). ways_in c.args.table.now n (left p) w) (map way_in c.args.rights.now)) in
    let all = c.args.lefts.now in
    let i = c.loop-left.left-index in
    left_stop c.loop-left.number (verdict_in c.in-Stopped.verdict) (judged (path_of c.left-item.result)) (flat_map judged (map path_of (drop (i + 1) all)))
    (flat_map judged (map path_of (drop i all))) (flat_map judged (map path_of all)) c.args.first (progress_in c.in_ok-next.field-0)
    (ap (flat_map judged) (map_drop_next path_of all i c.left-item.result c.loop-left-test.true c.left-item.is))
    (ap progress_in c.in-Stopped.is) c.in_ok-next.ensures.moves c.loop-left.invariant.rest

pub loop-left-preserved : goal.loop-left-preserved
loop-left-preserved c =
    let left = λ (p : Path). way_of c.args.table.now.a.now Left c.args.v.now p in
    let n = node_of c.args.node.now in
    let judged = (λ (p : Path). map (λ (w : Path × Computed Post). ways_in c.args.table.now n (left p) w) (map way_in c.args.rights.now)) in
    let all = c.args.lefts.now in
    let i = c.loop-left.left-index in
    let b : c.in-Held.next ≤ c.loop-left.number + most_branches =
    subst (NumberUpTo (c.loop-left.number + most_branches)) c.in-Held.is c.in_ok-next.ensures.bound in
    record {
      low = omega (arith, c.loop-left.invariant.low, b);
      rest = left_held c.loop-left.number c.in-Held.next (judged (path_of c.left-item.result)) (flat_map judged (map path_of (drop (i + 1) all)))
          (flat_map judged (map path_of (drop i all))) (flat_map judged (map path_of all)) c.args.first (progress_in c.in_ok-next.field-0)
          (ap (flat_map judged) (map_drop_next path_of all i c.left-item.result c.loop-left-test.true c.left-item.is))
          (ap progress_in c.in-Held.is) c.in_ok-next.ensures.moves c.loop-left.invariant.rest;
    }
