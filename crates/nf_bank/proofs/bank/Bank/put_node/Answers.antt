use Rattle.nf_bank.proofs.Nodes.{node_kept, graph_kept, front_kept, place_kept}
use Rattle.nf_bank.proofs.bank.Bank.put_node.Goals as goal

pub invariant_of-self-2 : goal.invariant_of-self-2
invariant_of-self-2 c = graph_kept c.self.inside.nodes.keys c.insert_full.new.self.keys c.args.node c.args.self.now c.self.view_is c.self.invariant c.requires
    c.in_ok-place.ensures.keys

pub returns-clause-kept : goal.returns-clause-kept
returns-clause-kept c = node_kept c.self.inside.nodes.keys c.insert_full.new.self.keys c.args.node c.args.self.now c.self.view_is c.self.invariant c.requires
    c.in_ok-place.ensures.keys

pub returns-clause-place : goal.returns-clause-place
returns-clause-place c =
    let s = c.in_ok-place.ensures.stored in
    place_kept c.self.inside.nodes.keys c.insert_full.new.self.keys c.args.node c.args.self.now c.self.view_is c.self.invariant c.requires
    c.in_ok-place.ensures.keys c.in_ok-place.place s.0 s.1 s.2

pub returns-clause-front : goal.returns-clause-front
returns-clause-front c = front_kept c.self.inside.nodes.keys c.insert_full.new.self.keys c.args.node c.args.self.now c.self.view_is c.self.invariant c.requires
    c.in_ok-place.ensures.keys
