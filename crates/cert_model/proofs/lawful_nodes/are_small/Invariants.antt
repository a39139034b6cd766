use Rattle.std.proofs.Common.{◌≡◌, ◌+◌, map, drop}
use Rattle.cert_model.specs.View.{node_of}
use Rattle.cert_model.specs.Sizes.{units_of}
use Rattle.cert_model.proofs.lawful_nodes.are_small.Given as goal

abbrev pub invariant-loop-node : goal.invariant-loop-node
invariant-loop-node l = units_of (map node_of l.nodes) + l.left ≡ 4000000 + units_of (map node_of (drop l.node-index l.nodes))
