use Rattle.std.proofs.Common.{sym, subst, ◌∙◌, map}
use Rattle.cert_model.specs.View.{node_of}
use Rattle.search_tables.specs.View.{table_in}
use Rattle.search_closing.specs.Closings.{IsMadeOf, ClosesBy}
use Rattle.search_closing.specs.declared.closing.Closing.TheVariants.{Certified}
use Rattle.search_closing.proofs.closing.close_by.Goals as goal

pub returns-in_ok-nodes-in-Ranks : goal.returns-in_ok-nodes-in-Ranks
returns-in_ok-nodes-in-Ranks c =
    let made : IsMadeOf (table_in c.args.nodes.items) c.args.modes.now c.in-Ranks.ranks.items (map node_of c.in_ok-nodes-in-Ranks.nodes.items) = record {
      nodes_are = c.in_ok-nodes-in-Ranks.ensures.nodes;
      modes_are = c.in_ok-nodes-in-Ranks.ensures.modes;
      ranks_are = c.in_ok-nodes-in-Ranks.ensures.ranks ∙ c.as_slice-in-Ranks.ensures.value;
    } in
    subst (λ r. ClosesBy (table_in c.args.nodes.items) c.args.modes.now r (Certified (record { nodes = c.in_ok-nodes-in-Ranks.nodes })))
    (sym c.in-Ranks.is) made
