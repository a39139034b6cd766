use Rattle.hls_bind.proofs.Formed.{bound_formed}
use Rattle.hls_bind.proofs.Whole.{bound_lawful}
use Rattle.hls_bind.proofs.laws.registers_keep_the_rules.Goals as goal

pub returns-clause-formed : goal.returns-clause-formed
returns-clause-formed c = λ p b rs h. bound_formed b rs p h

pub returns-clause-lawful : goal.returns-clause-lawful
returns-clause-lawful c = λ p b rs sound lawful binds are never. bound_lawful b rs p sound binds are never
