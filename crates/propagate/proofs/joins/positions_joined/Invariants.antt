use Rattle.std.proofs.Common.{◌≡◌, [], map, drop}
use Rattle.sym_paths.proofs.Loops.{followed}
use Rattle.sym_facts.specs.View.{position_in}
use Rattle.propagate.specs.JoinSteps.{joined_from}
use Rattle.propagate_equations.specs.View.{freed_in}
use Rattle.propagate.proofs.joins.positions_joined.Given as goal

abbrev pub invariant-loop-place : goal.invariant-loop-place
invariant-loop-place l = record {
  vector : l.s.vector ≡ l.initial.s.vector;
  rest : followed (map position_in l.out.items) (joined_from l.v l.place l.left (map freed_in l.freed.items) (map position_in (drop l.place l.positions)))
      ≡ joined_from l.v 0 l.missing [] (map position_in l.positions);
}
