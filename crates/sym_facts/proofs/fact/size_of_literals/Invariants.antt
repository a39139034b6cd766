use Rattle.std.proofs.Common.{◌≡◌, ◌+◌, map, drop}
use Rattle.nf_rel.specs.View.{literal_in}
use Rattle.sym_facts.specs.Facts.{size_of_literals}
use Rattle.sym_facts.proofs.fact.size_of_literals.Given as goal

abbrev pub invariant-loop-literal : goal.invariant-loop-literal
invariant-loop-literal l = record {
  rest : l.size + size_of_literals (map literal_in (drop l.literal-index l.literals)) ≡ size_of_literals (map literal_in l.literals);
}
