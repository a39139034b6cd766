use Rattle.std.proofs.Common.{◌≡◌, ◌++◌, drop}
use Rattle.search_tables.specs.Walks.{lists_in}
use Rattle.search_tables.specs.LoneMoves.{lone_from, lone_moves}
use Rattle.search_tables.specs.View.{table_in}
use Rattle.search_closing.specs.LoneSideMoves.{AreShort}
use Rattle.search_closing.specs.View.{covered_machines}
use Rattle.search_closing.proofs.lone.lone_moves.Given as goal

abbrev pub invariant-loop-place : goal.invariant-loop-place
invariant-loop-place l = record {
  edges : lists_in l.out.items ++ lone_from (covered_machines l.table.machines.now) (table_in l.table.nodes.now) (table_in (drop l.place l.table.nodes.now))
      ≡ lone_moves (covered_machines l.table.machines.now) (table_in l.table.nodes.now);
  short : AreShort (lists_in l.out.items);
}
