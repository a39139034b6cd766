use Rattle.std.proofs.Common.{◌∙◌}
use Rattle.nf_bank.proofs.Nodes.{grown_length}
use Rattle.nf_bank.proofs.bank.Bank.len.Goals as goal

pub returns-clause-number : goal.returns-clause-number
returns-clause-number c = c.len.ensures.len ∙ grown_length c.self.inside.nodes.keys c.args.self.now c.self.view_is
