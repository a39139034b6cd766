use Rattle.std.proofs.Common.{◌≡◌, ◌≤◌, ◌+◌, ◌*◌, map, drop}
use Rattle.nf_terms.specs.TermLimits.{size_limit}
use Rattle.sym_facts.specs.Facts.{size_of_equations}
use Rattle.sym_facts.specs.View.{position_in}
use Rattle.sym_facts.proofs.fact.size_of_equations.Given as goal

abbrev pub invariant-loop-position : goal.invariant-loop-position
invariant-loop-position l = record {
  rest : l.size + size_of_equations (map position_in (drop l.position-index l.positions)) ≡ size_of_equations (map position_in l.positions);
  small : l.size ≤ l.position-index * size_limit;
}
