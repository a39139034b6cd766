use Rattle.std.proofs.Common.{◌≡◌, ◌+◌, ◌++◌, length, map, drop}
use Rattle.cert_model.specs.View.{node_of}
use Rattle.search_tables.specs.Certifying.{node_without_mode}
use Rattle.search_tables.specs.View.{table_in}
use Rattle.search_closing.proofs.certify.certify.Given as goal

abbrev pub invariant-loop-node : goal.invariant-loop-node
invariant-loop-node l = record {
  left : l.place + length l.node-iterator.rest.items ≡ length l.fn.nodes.items;
  nodes : map node_without_mode (map node_of l.out.items) ++ table_in l.node-iterator.rest.items ≡ table_in l.fn.nodes.items;
  modes : map (λ c. c.mode) (map node_of l.out.items) ++ drop l.place l.modes ≡ l.modes;
  ranks : map (λ c. c.rank) (map node_of l.out.items) ++ drop l.place l.ranks ≡ l.ranks;
}
