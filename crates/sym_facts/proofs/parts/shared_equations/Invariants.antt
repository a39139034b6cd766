use Rattle.std.proofs.Common.{◌≡◌, ◌++◌, length}
use Rattle.std.specs.Vec.Iter.{into_iter_len}
use Rattle.sym_facts.proofs.parts.shared_equations.Given as goal

abbrev pub invariant-loop-equation : goal.invariant-loop-equation
invariant-loop-equation l = record {
  many : into_iter_len l.rest ≡ length l.rest.rest.items;
  rest : l.out.items ++ l.rest.rest.items ≡ l.fn.equations.items;
}

abbrev pub decreases-loop-equation : goal.decreases-loop-equation
decreases-loop-equation l = into_iter_len l.rest
