use Rattle.std.proofs.Common.{◌≡◌, ◌++◌, map, drop}
use Rattle.nf_rel.specs.View.{literal_in}
use Rattle.sym_facts.proofs.fact.copied_literals.Given as goal

abbrev pub invariant-loop-literal : goal.invariant-loop-literal
invariant-loop-literal l = record {
  rest : map literal_in l.out.items ++ map literal_in (drop l.literal-index l.literals) ≡ map literal_in l.literals;
}
