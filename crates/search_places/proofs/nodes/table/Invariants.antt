use Rattle.std.proofs.Common.{◌≡◌, ◌++◌}
use Rattle.search_tables.specs.View.{table_in}
use Rattle.search_places.specs.NodeRecords.{node_records, table_of}
use Rattle.search_places.proofs.nodes.table.Given as goal

abbrev pub invariant-loop-points : goal.invariant-loop-points
invariant-loop-points l = table_in l.out.items ++ table_of (node_records l.points-iterator) ≡ table_of (node_records l.fn.nodes.entries)
