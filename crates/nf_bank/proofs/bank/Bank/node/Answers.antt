use Rattle.std.proofs.Common.{◌≡◌, true, false, ◌<◌, length, arith, sym}
use Rattle.nf_bank.proofs.Nodes.{grown_length, node_there, node_within}
use Rattle.nf_bank.proofs.bank.Bank.node.Goals as goal

pub unreachable-requires : goal.unreachable-requires
unreachable-requires c =
    let h : c.args.id.0 < length c.self.inside.nodes.keys = omega (arith, grown_length c.self.inside.nodes.keys c.args.self.now c.self.view_is, c.requires) in
    let f : false ≡ true = c.in-None.ensures.found.1 h in cc

pub returns-clause-atom : goal.returns-clause-atom
returns-clause-atom c = node_there c.self.inside.nodes.keys c.args.self.now c.args.id.0 c.in-Some.node.now c.self.view_is c.self.invariant
    (sym c.in-Some.ensures.key)

pub returns-clause-within : goal.returns-clause-within
returns-clause-within c = node_within c.self.inside.nodes.keys c.args.id.0 c.in-Some.node.now c.self.invariant (sym c.in-Some.ensures.key)
