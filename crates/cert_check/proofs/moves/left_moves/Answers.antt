use Rattle.std.proofs.Common.{◌+◌, ◌≤◌, ◌∷◌, [], map, drop, ap, subst, arith}
use Rattle.std.specs.Prelude.{Some, None}
use Rattle.fs_model.proofs.Lists.{map_drop_next}
use Rattle.fs_cut.specs.Paths.{Path}
use Rattle.fs_cut.specs.View.{path_of}
use Rattle.cert_model.specs.View.{node_of}
use Rattle.cert_check.specs.View.{move_in, progress_in, verdict_in, NumberUpTo}
use Rattle.cert_check.proofs.Steps.{left_held, left_stop}
use Rattle.cert_check.proofs.moves.left_moves.Goals as goal

pub returns-in-Stopped-clause-moves : goal.returns-in-Stopped-clause-moves
returns-in-Stopped-clause-moves c =
    let judged = λ (p : Path). move_in c.args.table.now (node_of c.args.node.now) (Some p) None in
    let all = c.args.lefts.now in
    let i = c.loop-left.left-index in
    left_stop c.loop-left.number (verdict_in c.in-Stopped.verdict) (judged (path_of c.left-item.result) ∷ []) (map judged (map path_of (drop (i + 1) all)))
    (map judged (map path_of (drop i all))) (map judged (map path_of all)) c.args.first (progress_in c.in_ok-next.field-0)
    (ap (map judged) (map_drop_next path_of all i c.left-item.result c.loop-left-test.true c.left-item.is)) (ap progress_in c.in-Stopped.is)
    (c.in_ok-next.ensures.next _ c.judge_move.ensures) c.loop-left.invariant.rest

pub loop-left-preserved : goal.loop-left-preserved
loop-left-preserved c =
    let judged = λ (p : Path). move_in c.args.table.now (node_of c.args.node.now) (Some p) None in
    let all = c.args.lefts.now in
    let i = c.loop-left.left-index in
    let b : c.in-Held.next ≤ c.loop-left.number + 1 = subst (NumberUpTo (c.loop-left.number + 1)) c.in-Held.is c.in_ok-next.ensures.bound in
    record {
      low = omega (arith, c.loop-left.invariant.low, b);
      rest = left_held c.loop-left.number c.in-Held.next (judged (path_of c.left-item.result) ∷ []) (map judged (map path_of (drop (i + 1) all)))
          (map judged (map path_of (drop i all))) (map judged (map path_of all)) c.args.first (progress_in c.in_ok-next.field-0)
          (ap (map judged) (map_drop_next path_of all i c.left-item.result c.loop-left-test.true c.left-item.is)) (ap progress_in c.in-Held.is)
          (c.in_ok-next.ensures.next _ c.judge_move.ensures) c.loop-left.invariant.rest;
    }
