use Rattle.std.proofs.Common.{◌≡◌, ◌∙◌, ◌++◌, Bor, ap, sym, subst, append-nil}
use Rattle.std.specs.Prelude.{OnOk}
use Rattle.std.specs.Option.{option_map}
use Rattle.search_tables.specs.declared.nodes.SearchNode.{SearchNode as CodeNode}
use Rattle.search_tables.specs.View.{search_node_in}
use Rattle.show_move_lines.specs.MoveLines.{moved_at}
use Rattle.show_move_lines.specs.View.{side_machines}
use Rattle.show_move_lines.proofs.Lookups.{looked_up}
use Rattle.show_move_lines.proofs.lines.write_move.Goals as goal

pub returns-in-Some : goal.returns-in-Some
returns-in-Some c =
    let there = looked_up search_node_in c.args.nodes.now c.args.at.node c.get.result c.get.ensures.lookup
    ∙ ap (option_map (λ (x : Bor CodeNode). search_node_in x.now)) c.in-Some.is in
    subst (λ o. OnOk c.write_moved.result (c.write_moved.new.out.items ≡ c.args.out.now.items ++ moved_at (side_machines c.args.m.now) c.args.at o)) (sym there)
    c.write_moved.ensures

pub returns-in-None : goal.returns-in-None
returns-in-None c =
    let gone = looked_up search_node_in c.args.nodes.now c.args.at.node c.get.result c.get.ensures.lookup
    ∙ ap (option_map (λ (x : Bor CodeNode). search_node_in x.now)) c.in-None.is in
    sym (ap (λ o. c.args.out.now.items ++ moved_at (side_machines c.args.m.now) c.args.at o) gone ∙ append-nil c.args.out.now.items)
