use Rattle.search_tables.specs.View.{table_in}
use Rattle.search_closing.specs.View.{covered_machines}
use Rattle.search_closing.proofs.Edges.{all_in_range}
use Rattle.search_closing.proofs.closing.lone_graph.Goals as goal

pub returns-clause-range : goal.returns-clause-range
returns-clause-range c = all_in_range (covered_machines c.args.machines.now)
    (table_in c.args.nodes.now) c.lone_moves.result c.requires.formed.few c.lone_moves.ensures.edges c.lone_moves.ensures.short
