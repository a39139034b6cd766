use Rattle.search_waiting.specs.ItemOrder.{waits}
use Rattle.search_waiting.proofs.Orders.{adds_by}
use Rattle.search_waiting.proofs.waiting.add.Goals as goal

pub returns-clause-added : goal.returns-clause-added
returns-clause-added c = adds_by (waits c.args.waiting.now) (waits c.insert.new.self) c.args.item c.in_ok-insert.ensures.updates.0
