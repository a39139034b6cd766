use Rattle.search_waiting.specs.ItemOrder.{waits}
use Rattle.search_waiting.proofs.Orders.{least_of}
use Rattle.search_waiting.proofs.waiting.least.Goals as goal

pub returns-in-Some-clause-least : goal.returns-in-Some-clause-least
returns-in-Some-clause-least c = least_of (waits c.args.waiting.now) c.in-Some.item.now c.in-Some.ensures.least
