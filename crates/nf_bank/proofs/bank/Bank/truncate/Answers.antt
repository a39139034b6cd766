use Rattle.std.proofs.Common.{ap, sym, subst, take, ◌∙◌}
use Rattle.nf_bank.specs.AtomGraphs.{atoms_of, IsAtomGraph}
use Rattle.nf_bank.proofs.Nodes.{atoms_taken, graph_taken}
use Rattle.nf_bank.proofs.bank.Bank.truncate.Goals as goal

pub invariant_of-self : goal.invariant_of-self
invariant_of-self c = subst IsAtomGraph (sym c.truncate.ensures.keys) (graph_taken c.args.count c.self.inside.nodes.keys c.self.invariant)

pub returns : goal.returns
returns c = ap atoms_of c.truncate.ensures.keys ∙ atoms_taken c.args.count c.self.inside.nodes.keys ∙ ap (take c.args.count) c.self.view_is
