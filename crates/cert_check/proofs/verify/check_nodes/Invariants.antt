use Rattle.std.proofs.Common.{◌≡◌, ◌+◌, ◌*◌, ◌≤◌, map, drop}
use Rattle.std.specs.List.{flat_map}
use Rattle.cert_model.specs.View.{node_of}
use Rattle.cert_check.specs.Progress.{progress_from}
use Rattle.cert_check.specs.View.{owed_in, most_owed}
use Rattle.cert_check.proofs.verify.check_nodes.Given as goal

abbrev pub invariant-loop-node : goal.invariant-loop-node
invariant-loop-node l = record {
  low : l.number ≤ l.first + most_owed * l.node-index;
  rest : progress_from l.number (flat_map (owed_in l.table) (map node_of (drop l.node-index l.nodes)))
      ≡ progress_from l.first (flat_map (owed_in l.table) (map node_of l.nodes));
}
