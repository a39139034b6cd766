use Rattle.std.proofs.Common.{◌≡◌, ◌+◌, [], true, false, map, length}
use Rattle.std.specs.Vec.Iter.{into_iter_len}
use Rattle.cert_values.specs.View.{items_view}
use Rattle.cert_model.specs.View.{node_of}
use Rattle.cert_values.specs.Shape.{are_nodes, some_has_many}
use Rattle.cert_facts.specs.JsonParts.{node_texts}
use Rattle.cert_text.specs.CertificateReading.{nodes_read}
use Rattle.cert_text.specs.View.{context_in}
use Rattle.cert_terms.specs.Repeats.{AreLast}
use Rattle.cert_text.specs.Within.{AreNodesOf}
use Rattle.cert_text.proofs.nodes.read_nodes.Given as goal

abbrev pub invariant-loop-value : goal.invariant-loop-value
invariant-loop-value l = record {
  told : nodes_read (context_in l.c) (length l.nodes.items) (map node_of l.nodes.items) (node_texts (items_view l.rest.rest.items))
      ≡ nodes_read (context_in l.c) 0 [] (node_texts (items_view l.fn.values.items));
  of : AreNodesOf l.c.a.now l.c.b.now l.c.places.now.positions.now (map node_of l.nodes.items);
  count : length l.nodes.items + length l.rest.rest.items ≡ length l.fn.values.items;
  many : into_iter_len l.rest ≡ length l.rest.rest.items;
  shape : are_nodes (items_view l.rest.rest.items) ≡ true;
  few : some_has_many (items_view l.rest.rest.items) ≡ false;
  last : AreLast l.c.places.now l.last.items;
}

abbrev pub decreases-loop-value : goal.decreases-loop-value
decreases-loop-value l = into_iter_len l.rest
