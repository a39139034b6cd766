use Rattle.std.proofs.Common.{ap, sym, subst, ◌∙◌, map}
use Rattle.search_tables.specs.View.{table_in, points_in, points_at, obstacle_in}
use Rattle.search_worklist.specs.SearchEnds.{EndsSo}
use Rattle.search_tables.specs.SearchTables.{machines}
use Rattle.search.proofs.Outcomes.{stops}
use Rattle.search.proofs.searching.search_by_covers.Goals as goal

pub returns-in-Some : goal.returns-in-Some
returns-in-Some c =
    let m = machines c.args.a.now c.args.b.now in
    let T = table_in c.in_ok-ended.ended.nodes.items in
    let points = ap (λ ns. map points_at (table_in ns)) (sym c.as_slice.ensures.value) ∙ c.in_ok-points.ensures in
    c.outcome_at.ensures m (stops m c.in_ok-ended.ended.moves.items T (map points_in c.in_ok-points.points.items)
    (obstacle_in c.in-Some.obstacle) c.vars-left.ensures.sound c.vars-right.ensures.sound c.in_ok-ended.ensures.makes points
    (subst (EndsSo m T) c.in-Some.is c.in_ok-ended.ensures.ends))
