use Rattle.std.proofs.Common.{◌≡◌, ◌++◌, map, drop}
use Rattle.fs_cut.specs.Paths.{Point}
use Rattle.cert_model.specs.Obligations.{nodes_at}
use Rattle.cert_model.specs.View.{node_of}
use Rattle.cert_check.specs.Listing.{listed_at}
use Rattle.cert_check.proofs.lookup.index_of.Given as goal

abbrev pub invariant-loop-node : goal.invariant-loop-node
invariant-loop-node l = (P Q : Point)
    → listed_at l.by_points.entries P Q ++ nodes_at (map node_of (drop l.node-index l.nodes)) P Q
    ≡ nodes_at (map node_of l.nodes) P Q
