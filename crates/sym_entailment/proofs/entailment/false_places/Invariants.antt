use Rattle.std.proofs.Common.{◌≡◌, ◌++◌, drop}
use Rattle.sym_facts.specs.Entailment.{false_places}
use Rattle.sym_entailment.proofs.entailment.false_places.Given as goal

abbrev pub invariant-loop-place : goal.invariant-loop-place
invariant-loop-place l = record {
  rest : l.out.items ++ false_places l.place (drop l.place l.members) ≡ false_places 0 l.members;
}
