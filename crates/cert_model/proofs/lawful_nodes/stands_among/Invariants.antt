use Rattle.std.proofs.Common.{◌≡◌, ◌&&◌, map, drop}
use Rattle.std.specs.List.{list_any}
use Rattle.fs_cut.specs.Covers.{same_point}
use Rattle.fs_cut.specs.View.{point_of}
use Rattle.cert_model.specs.View.{node_of}
use Rattle.cert_model.proofs.lawful_nodes.stands_among.Given as goal

abbrev pub invariant-loop-other : goal.invariant-loop-other
invariant-loop-other l =
    list_any (λ k. same_point (point_of l.node.left) k.left && same_point (point_of l.node.right) k.right) (map node_of (drop l.other-index l.others)) ≡
    list_any (λ k. same_point (point_of l.node.left) k.left && same_point (point_of l.node.right) k.right) (map node_of l.others)
