use Rattle.std.proofs.Common.{◌≡◌, ◌++◌, map, drop}
use Rattle.sym_facts.specs.Facts.{vector_of}
use Rattle.sym_facts.specs.View.{position_in}
use Rattle.sym_facts.proofs.fact.vector_with.Given as goal

abbrev pub invariant-loop-position : goal.invariant-loop-position
invariant-loop-position l = record {
  rest : l.v ++ vector_of (map position_in (drop l.position-index l.positions)) ≡ vector_of (map position_in l.positions);
}
