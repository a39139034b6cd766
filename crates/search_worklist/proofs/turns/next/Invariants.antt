use Rattle.std.proofs.Common.{◌≡◌}
use Rattle.search_worklist.specs.States.{table, IsReady, IsMade, work}
use Rattle.search_worklist.specs.NodeWays.{AreKept}
use Rattle.search_worklist.specs.View.{machines_in}
use Rattle.search_worklist.proofs.turns.next.Given as goal

abbrev pub invariant-turns : goal.invariant-turns
invariant-turns l = record {
  ready : IsReady (machines_in l.m) l.state;
  made : IsMade (machines_in l.m) (table l.state);
  same : table l.state ≡ table l.initial.state;
  kept : AreKept (machines_in l.m) (table l.state) l.tried.ways;
}

abbrev pub decreases-turns : goal.decreases-turns
decreases-turns l = work l.state
