use Rattle.std.proofs.Common.{◌≡◌, length, map, drop}
use Rattle.nf_rel.specs.View.{literal_in}
use Rattle.sym_paths.specs.View.{post_in}
use Rattle.sym_paths.specs.Sequences.{each}
use Rattle.sym_paths.proofs.Loops.{followed}
use Rattle.sym_facts.specs.Entailment.{literal_met}
use Rattle.sym_entailment.proofs.entailment.literals_met.Given as goal

abbrev pub invariant-loop-literal : goal.invariant-loop-literal
invariant-loop-literal l = record {
  vector : l.s.vector ≡ l.initial.s.vector;
  many : length l.out.items ≡ l.literal-index;
  rest : followed l.out.items (each (λ x. literal_met (post_in l.post) x) (map literal_in (drop l.literal-index l.literals)))
      ≡ each (λ x. literal_met (post_in l.post) x) (map literal_in l.literals);
}
