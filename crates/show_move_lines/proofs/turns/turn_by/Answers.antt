use Rattle.std.proofs.Common.{◌∙◌, Bor, ap, sym, subst}
use Rattle.std.specs.Option.{option_map}
use Rattle.nf_terms.specs.Computed.{Answers}
use Rattle.sym_paths.specs.View.{answer_in_data}
use Rattle.search_tables.specs.declared.nodes.SearchNode.{SearchNode as CodeNode}
use Rattle.search_tables.specs.View.{search_node_in, table_in}
use Rattle.show_move_lines.specs.MoveReplays.{turn_by}
use Rattle.show_move_lines.specs.View.{side_machines, turn_in}
use Rattle.show_move_lines.proofs.Lookups.{looked_up}
use Rattle.show_move_lines.proofs.turns.turn_by.Goals as goal

pub returns-in-Some-clause-answers : goal.returns-in-Some-clause-answers
returns-in-Some-clause-answers c =
    let T = table_in c.args.nodes.now in
    let there = looked_up search_node_in c.args.nodes.now c.args.at.node c.get.result c.get.ensures.lookup
    ∙ ap (option_map (λ (x : Bor CodeNode). search_node_in x.now)) c.in-Some.is in
    subst (λ o. Answers (answer_in_data turn_in c.turn_from.result) (turn_by c.args.m.now.pairing.now (side_machines c.args.m.now) T c.args.at o)) (sym there)
    c.turn_from.ensures.answers

pub returns-in-None-clause-answers : goal.returns-in-None-clause-answers
returns-in-None-clause-answers c =
    let T = table_in c.args.nodes.now in
    let gone = looked_up search_node_in c.args.nodes.now c.args.at.node c.get.result c.get.ensures.lookup
    ∙ ap (option_map (λ (x : Bor CodeNode). search_node_in x.now)) c.in-None.is in
    ap (turn_by c.args.m.now.pairing.now (side_machines c.args.m.now) T c.args.at) gone
