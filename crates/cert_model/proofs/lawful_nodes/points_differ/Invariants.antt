use Rattle.std.proofs.Common.{◌≡◌, map, length}
use Rattle.cert_model.specs.Lawful.{points_differ}
use Rattle.cert_model.specs.View.{node_of}
use Rattle.cert_model.proofs.lawful_nodes.points_differ.Given as goal

abbrev pub invariant-nodes : goal.invariant-nodes
invariant-nodes l = points_differ (map node_of l.rest) ≡ points_differ (map node_of l.nodes)

abbrev pub decreases-nodes : goal.decreases-nodes
decreases-nodes l = length l.rest
