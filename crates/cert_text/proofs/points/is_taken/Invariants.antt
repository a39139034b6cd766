use Rattle.std.proofs.Common.{◌≡◌, map, drop}
use Rattle.std.specs.List.{list_any}
use Rattle.fs_cut.specs.View.{point_of}
use Rattle.cert_model.specs.View.{node_of}
use Rattle.cert_text.specs.NodePointNames.{node_is_at}
use Rattle.cert_text.proofs.points.is_taken.Given as goal

abbrev pub invariant-loop-node : goal.invariant-loop-node
invariant-loop-node l = list_any (node_is_at (point_of l.left) (point_of l.right)) (map node_of (drop l.node-index l.nodes))
    ≡ list_any (node_is_at (point_of l.left) (point_of l.right)) (map node_of l.nodes)
