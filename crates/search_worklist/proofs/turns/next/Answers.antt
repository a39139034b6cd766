use Rattle.std.proofs.Common.{subst, None}
use Rattle.search_waiting.specs.ItemOrder.{item, waits}
use Rattle.search_worklist.specs.SearchEnds.{EndsSo}
use Rattle.search_worklist.specs.States.{records}
use Rattle.search_worklist.specs.View.{machines_in}
use Rattle.search_worklist.proofs.Least.{none_waits}
use Rattle.search_worklist.proofs.turns.next.Goals as goal

pub returns-in-None-clause-next : goal.returns-in-None-clause-next
returns-in-None-clause-next c =
    let m = machines_in c.args.m.now in
    let s = c.turns.state in
    subst (λ T. EndsSo m T None) c.turns.invariant.same
    (none_waits m (records s) (waits s.waiting) c.turns.invariant.ready.waiting (λ j q. c.in-None.ensures.none (item j q)), c.turns.invariant.made.agrees)
