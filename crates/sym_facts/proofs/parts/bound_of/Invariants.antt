use Rattle.std.proofs.Common.{◌≡◌, max, map, drop}
use Rattle.sym_facts.specs.PositionSets.{bound_of}
use Rattle.sym_facts.specs.View.{position_in}
use Rattle.sym_facts.proofs.parts.bound_of.Given as goal

abbrev pub invariant-loop-position : goal.invariant-loop-position
invariant-loop-position l = max l.least (bound_of (map position_in (drop l.position-index l.positions))) ≡ bound_of (map position_in l.positions)
