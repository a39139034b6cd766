use Rattle.std.proofs.Common.{map, drop}
use Rattle.std.specs.List.{AllByRecursion}
use Rattle.cert_model.specs.View.{node_of}
use Rattle.cert_model.specs.Kept.{HasNormalFact}
use Rattle.cert_model.proofs.kept.certificates_are_normal.Given as goal

abbrev pub invariant-loop-node : goal.invariant-loop-node
invariant-loop-node l = AllByRecursion HasNormalFact (map node_of (drop l.node-index l.c.nodes.items))
    → AllByRecursion HasNormalFact (map node_of l.c.nodes.items)
