use Rattle.std.proofs.Common.{◌≡◌, true, [], map, drop}
use Rattle.std.specs.List.{list_all}
use Rattle.nf_rel.specs.View.{literal_in}
use Rattle.sym_facts.specs.Facts.{may_be_kept}
use Rattle.propagate_equations.specs.EquationSteps.{conditions_from}
use Rattle.propagate_equations.proofs.conditions.conditions_kept.Given as goal

abbrev pub invariant-loop-condition : goal.invariant-loop-condition
invariant-loop-condition l = record {
  vector : l.s.vector ≡ l.initial.s.vector;
  kept : list_all may_be_kept (map literal_in l.out.items) ≡ true;
  rest : conditions_from l.meanings (map literal_in l.out.items) (map literal_in (drop l.condition-index l.conditions))
      ≡ conditions_from l.meanings [] (map literal_in l.conditions);
}
