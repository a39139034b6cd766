use Rattle.std.proofs.Common.{◌≡◌, ◌++◌, map, drop}
use Rattle.search_tables.specs.View.{table_in, points_in, points_at}
use Rattle.search.proofs.searching.points_of.Given as goal

abbrev pub invariant-loop-node : goal.invariant-loop-node
invariant-loop-node l = record {
  points : map points_in l.out.items ++ map points_at (table_in (drop l.node-index l.nodes)) ≡ map points_at (table_in l.nodes);
}
