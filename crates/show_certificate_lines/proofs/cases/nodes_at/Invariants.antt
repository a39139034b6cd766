use Rattle.std.proofs.Common.{◌≡◌, ◌++◌, map, drop}
use Rattle.fs_cut.specs.View.{point_of}
use Rattle.cert_model.specs.Obligations.{nodes_at}
use Rattle.cert_model.specs.View.{node_of}
use Rattle.show_certificate_lines.proofs.cases.nodes_at.Given as goal

abbrev pub invariant-loop-node : goal.invariant-loop-node
invariant-loop-node l =
    map (λ n. node_of n.now) l.found.items ++ nodes_at (map node_of (drop l.node-index l.nodes)) (point_of l.left) (point_of l.right)
    ≡ nodes_at (map node_of l.nodes) (point_of l.left) (point_of l.right)
