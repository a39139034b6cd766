use Rattle.std.proofs.Common.{◌≡◌, ◌++◌, map, drop}
use Rattle.sym_facts.specs.View.{position_in}
use Rattle.sym_facts.proofs.fact.copied_positions.Given as goal

abbrev pub invariant-loop-position : goal.invariant-loop-position
invariant-loop-position l = record {
  rest : map position_in l.out.items ++ map position_in (drop l.position-index l.positions) ≡ map position_in l.positions;
}
