use Rattle.search_tables.specs.Legal.{Makes}
use Rattle.search_worklist.specs.States.{table, IsReady}
use Rattle.search_worklist.specs.View.{machines_in}
use Rattle.search_worklist.proofs.Differing.{DiffersAlone}
use Rattle.search_worklist.proofs.Legal.{moves_left}
use Rattle.search.proofs.run.make_moves.Given as goal

abbrev pub invariant-moves : goal.invariant-moves
invariant-moves l = record {
  ready : IsReady (machines_in l.m) l.state;
  makes : Makes (machines_in l.m) l.moves.items (table l.state);
  differs : DiffersAlone (machines_in l.m) (table l.state) l.changed;
}

abbrev pub decreases-moves : goal.decreases-moves
decreases-moves l = moves_left (machines_in l.m) l.moves.items
