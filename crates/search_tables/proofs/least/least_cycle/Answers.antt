use Rattle.std.proofs.Common.{subst}
use Rattle.search_tables.specs.Walks.{lists_in}
use Rattle.search_tables.specs.Ways.{GoesBack, IsWayBack}
use Rattle.search_tables.proofs.WayBack.{least_of}
use Rattle.search_tables.proofs.least.least_cycle.Goals as goal

pub returns-in-Some : goal.returns-in-Some
returns-in-Some c =
    let E = lists_in c.args.edges.now in
    let w : IsWayBack E c.roots.root c.in-Some.cycle.items = subst (GoesBack E c.roots.root) c.in-Some.is c.in_ok-cycle.ensures in
    least_of E c.roots.root c.in-Some.cycle.items c.roots.invariant w
