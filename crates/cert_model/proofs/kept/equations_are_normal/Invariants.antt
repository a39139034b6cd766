use Rattle.std.proofs.Common.{map, drop}
use Rattle.std.specs.List.{AllByRecursion}
use Rattle.sym_facts.specs.View.{position_in}
use Rattle.cert_model.specs.Kept.{IsNormalEquation}
use Rattle.cert_model.proofs.kept.equations_are_normal.Given as goal

abbrev pub invariant-loop-position : goal.invariant-loop-position
invariant-loop-position l = AllByRecursion (λ q. IsNormalEquation q.equation) (map position_in (drop l.position-index l.positions))
    → AllByRecursion (λ q. IsNormalEquation q.equation) (map position_in l.positions)
