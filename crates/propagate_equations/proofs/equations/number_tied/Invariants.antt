use Rattle.std.proofs.Common.{◌≡◌, drop}
use Rattle.propagate_equations.specs.EquationSteps.{rebase_tie}
use Rattle.propagate_equations.proofs.equations.number_tied.Given as goal

abbrev pub invariant-loop-q : goal.invariant-loop-q
invariant-loop-q l = record {
  vector : l.s.vector ≡ l.initial.s.vector;
  rest : rebase_tie l.v l.meanings l.number (drop l.q-index l.freed) ≡ rebase_tie l.v l.meanings l.number l.freed;
}
