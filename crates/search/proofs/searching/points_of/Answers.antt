use Rattle.std.proofs.Common.{◌+◌, ◌++◌, drop, map, append_assoc, ap, sym, ◌∙◌}
use Rattle.std.proofs.lemmas.List.{append-nil, at_drop_all, map-append}
use Rattle.fs_model.proofs.Lists.{drop_next}
use Rattle.search_tables.specs.View.{table_in, points_in, points_at}
use Rattle.search.proofs.searching.points_of.Goals as goal

pub loop-node-preserved : goal.loop-node-preserved
loop-node-preserved c =
    let xs = c.args.nodes.now in
    let i = c.loop-node.node-index in
    let x = c.node-item.result in
    let old = c.loop-node.out.items in
    record {
      points = ap (λ l. map points_in l ++ map points_at (table_in (drop (i + 1) xs))) c.in_ok-push.ensures.items
          ∙ ap (λ l. l ++ map points_at (table_in (drop (i + 1) xs))) (map-append points_in old _)
          ∙ append_assoc (map points_in old) _ (map points_at (table_in (drop (i + 1) xs)))
          ∙ ap (λ l. map points_in old ++ map points_at (table_in l)) (sym (drop_next xs i x c.loop-node-test.true c.node-item.is))
          ∙ c.loop-node.invariant.points;
    }

pub returns : goal.returns
returns c =
    let xs = c.args.nodes.now in
    let done = map points_in c.loop-node.out.items in
    sym c.loop-node.invariant.points
    ∙ at_drop_all (λ ys. done ++ map points_at (table_in ys)) xs c.loop-node.node-index c.loop-node-test.false
    ∙ append-nil done
