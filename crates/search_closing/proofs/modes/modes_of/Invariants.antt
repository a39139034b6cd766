use Rattle.std.proofs.Common.{◌≡◌, ◌++◌, map, drop}
use Rattle.search_tables.specs.Modes.{Found}
use Rattle.search_tables.specs.Next.{mode_at}
use Rattle.search_tables.specs.View.{table_in}
use Rattle.search_closing.specs.View.{covered_machines}
use Rattle.search_closing.proofs.modes.modes_of.Given as goal

abbrev pub invariant-loop-node : goal.invariant-loop-node
invariant-loop-node l = record {
  modes : map (λ x. Found x) l.out.items ++ map (mode_at (covered_machines l.m)) (table_in (drop l.node-index l.nodes))
      ≡ map (mode_at (covered_machines l.m)) (table_in l.nodes);
}
