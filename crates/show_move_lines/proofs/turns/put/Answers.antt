use Rattle.std.proofs.lemmas.List.{map-set}
use Rattle.search_tables.specs.View.{search_node_in}
use Rattle.show_move_lines.proofs.turns.put.Goals as goal

pub returns-then-number-len : goal.returns-then-number-len
returns-then-number-len c = map-set search_node_in c.args.nodes.now.items c.args.number c.args.node
