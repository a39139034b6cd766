use Rattle.std.proofs.Common.{◌≡◌, take}
use Rattle.search_tables.specs.View.{table_in}
use Rattle.search_closing.specs.NodePlaces.{keys_in}
use Rattle.search_closing.proofs.places.places_of.Given as goal

abbrev pub invariant-loop-node : goal.invariant-loop-node
invariant-loop-node l = record {
  keys : l.places.keys ≡ keys_in (table_in (take l.node-index l.nodes));
}
