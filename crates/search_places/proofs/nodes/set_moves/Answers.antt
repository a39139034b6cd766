use Rattle.std.proofs.Common.{sym, Some}
use Rattle.search_places.specs.NodeRecords.{record_of_node}
use Rattle.search_places.proofs.Values.{held}
use Rattle.search_places.proofs.nodes.set_moves.Goals as goal

pub returns : goal.returns
returns c =
    let old = c.in-Some.entry.now in
    let h = held c.args.nodes.now.entries c.args.number old (sym c.in-Some.ensures.value) in
    record { old = record_of_node (h.pair, old); is_in = h.is_in; set = h.set (record { fact = old.fact; moves = Some c.args.moves; arrivals = old.arrivals }) }
