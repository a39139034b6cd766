use Rattle.std.proofs.Common.{◌≡◌, ◌++◌, map, drop}
use Rattle.cert_facts.specs.FactReading.{unwritten_equation}
use Rattle.cert_facts.proofs.equations.all_unwritten.Given as goal

abbrev pub invariant-loop-position : goal.invariant-loop-position
invariant-loop-position l = record {
  rest : l.out.items ++ map (unwritten_equation l.format) (drop l.position-index l.positions) ≡ map (unwritten_equation l.format) l.positions;
}
