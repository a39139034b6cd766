use Rattle.std.proofs.Common.{◌≡◌, ◌++◌, length, drop, map}
use Rattle.std.specs.Vec.Iter.{into_iter_len}
use Rattle.sym_facts.specs.FactParts.{with_equations}
use Rattle.sym_facts.specs.View.{position_in}
use Rattle.sym_facts.proofs.parts.with_equations.Given as goal

abbrev pub invariant-loop-p : goal.invariant-loop-p
invariant-loop-p l = record {
  many : into_iter_len l.rest ≡ length l.rest.rest.items;
  rest : map position_in l.out.items ++ with_equations (drop l.p-index l.positions) l.rest.rest.items ≡ with_equations l.positions l.fn.equations.items;
}
