use Rattle.search_waiting.specs.ItemOrder.{waits}
use Rattle.search_waiting.proofs.Orders.{drops_by}
use Rattle.search_waiting.proofs.waiting.remove.Goals as goal

pub returns-clause-dropped : goal.returns-clause-dropped
returns-clause-dropped c = drops_by (waits c.args.waiting.now) (waits c.remove.new.self) c.args.item c.remove.ensures.updates.0
