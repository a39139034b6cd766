use Rattle.std.proofs.Common.{◌≡◌, map, drop, nat_le}
use Rattle.std.specs.List.{list_all}
use Rattle.cert_model.specs.Lawful.{most_rank}
use Rattle.cert_model.specs.View.{node_of}
use Rattle.cert_model.proofs.lawful_nodes.have_ranks.Given as goal

abbrev pub invariant-loop-node : goal.invariant-loop-node
invariant-loop-node l =
    list_all (λ n. nat_le n.rank most_rank) (map node_of (drop l.node-index l.nodes)) ≡
    list_all (λ n. nat_le n.rank most_rank) (map node_of l.nodes)
