use Rattle.std.proofs.Common.{◌≡◌, length, map, drop}
use Rattle.sym_paths.specs.Sequences.{each}
use Rattle.sym_paths.proofs.Loops.{followed}
use Rattle.sym_facts.specs.Entailment.{equation_met}
use Rattle.sym_facts.specs.View.{position_in}
use Rattle.sym_entailment.proofs.entailment.equations_met.Given as goal

abbrev pub invariant-loop-position : goal.invariant-loop-position
invariant-loop-position l = record {
  vector : l.s.vector ≡ l.initial.s.vector;
  many : length l.out.items ≡ l.position-index;
  rest : followed l.out.items (each (λ p. equation_met l.v p.pos p.equation) (map position_in (drop l.position-index l.positions)))
      ≡ each (λ p. equation_met l.v p.pos p.equation) (map position_in l.positions);
}
