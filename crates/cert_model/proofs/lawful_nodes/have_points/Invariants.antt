use Rattle.std.proofs.Common.{◌≡◌, ◌&&◌, map, drop}
use Rattle.std.specs.List.{list_all}
use Rattle.fs_cut.specs.Paths.{is_point}
use Rattle.cert_model.specs.View.{node_of}
use Rattle.cert_model.proofs.lawful_nodes.have_points.Given as goal

abbrev pub invariant-loop-node : goal.invariant-loop-node
invariant-loop-node l =
    list_all (λ n. is_point l.a n.left && is_point l.b n.right) (map node_of (drop l.node-index l.nodes)) ≡
    list_all (λ n. is_point l.a n.left && is_point l.b n.right) (map node_of l.nodes)
