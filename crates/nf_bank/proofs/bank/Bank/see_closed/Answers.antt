use Rattle.nf_bank.proofs.Closed.{closed}
use Rattle.nf_bank.proofs.bank.Bank.see_closed.Goals as goal

pub returns : goal.returns
returns c = closed c.self.inside.nodes.keys c.args.self.now c.self.view_is c.self.invariant
