use Rattle.std.proofs.Common.{◌≡◌, ◌≤◌, ◌++◌, length, map, drop}
use Rattle.fs_cut.specs.View.{path_of}
use Rattle.search_tables.specs.LoneMoves.{lone_mode, lone_targets}
use Rattle.search_tables.specs.View.{table_in, search_node_in}
use Rattle.search_closing.specs.LoneSideMoves.{lone_path, Keep}
use Rattle.search_closing.specs.View.{covered_machines}
use Rattle.search_closing.proofs.lone.lone_targets.Given as goal

abbrev pub invariant-loop-path : goal.invariant-loop-path
invariant-loop-path l = record {
  keep : Keep (covered_machines l.table.machines.now) (table_in l.table.nodes.now) (search_node_in l.node)
      (map (lone_path l.side) (map path_of (drop l.path-index l.paths)));
  targets : l.out.items ++ lone_targets (covered_machines l.table.machines.now) (table_in l.table.nodes.now) (search_node_in l.node) (lone_mode l.side)
      (map (lone_path l.side) (map path_of (drop l.path-index l.paths)))
      ≡ lone_targets (covered_machines l.table.machines.now) (table_in l.table.nodes.now) (search_node_in l.node) (lone_mode l.side)
      (map (lone_path l.side) (map path_of l.paths));
  few : length l.out.items ≤ l.path-index;
}
