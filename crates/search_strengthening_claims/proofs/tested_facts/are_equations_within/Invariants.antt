use Rattle.std.proofs.Common.{◌≡◌, drop}
use Rattle.std.specs.List.{list_all}
use Rattle.sym_facts.specs.Pairings.{is_position}
use Rattle.sym_facts.specs.FactParts.{equation_within}
use Rattle.search_strengthening_claims.proofs.tested_facts.are_equations_within.Given as goal

abbrev pub invariant-loop-equation : goal.invariant-loop-equation
invariant-loop-equation l =
    list_all (equation_within (is_position l.positions)) (drop l.equation-index l.equations) ≡
    list_all (equation_within (is_position l.positions)) l.equations
