use Rattle.std.proofs.Common.{◌≡◌, map, drop}
use Rattle.propagate_equations.specs.TieSteps.{join_tie}
use Rattle.propagate_equations.specs.View.{freed_in}
use Rattle.propagate_equations.proofs.ties.number_tied.Given as goal

abbrev pub invariant-loop-other : goal.invariant-loop-other
invariant-loop-other l = record {
  vector : l.s.vector ≡ l.initial.s.vector;
  rest : join_tie l.v l.p l.number (map freed_in (drop l.other-index l.freed)) ≡ join_tie l.v l.p l.number (map freed_in l.freed);
}
