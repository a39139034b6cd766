use Rattle.std.proofs.Common.{◌∙◌, ap, sym, List}
use Rattle.std.specs.Prelude.{slice_set}
use Rattle.search_waiting.specs.declared.item.Item.{Item}
use Rattle.search_places.specs.NodeRecords.{record_of_node, node_records}
use Rattle.search_places.proofs.Values.{held}
use Rattle.search_places.proofs.nodes.list_arrival.Goals as goal

pub returns : goal.returns
returns c =
    let old = c.in-Some.entry.now in
    let es = c.args.nodes.now.entries in
    let h = held es c.args.number old (sym c.in-Some.ensures.value) in
    record {
      old = record_of_node (h.pair, old);
      is_in = h.is_in;
      set = h.set (record { fact = old.fact; moves = old.moves; arrivals = c.push.new.self })
          ∙ ap
          (λ (a : List Item). slice_set (node_records es) c.args.number
          (record { node = (record_of_node (h.pair, old)).node; moves = (record_of_node (h.pair, old)).moves; arrivals = a }))
          c.in_ok-push-in-Some.ensures.items;
    }
