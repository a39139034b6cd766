use Rattle.std.proofs.Common.{◌≡◌, drop}
use Rattle.sym_facts.specs.Pairings.{is_position}
use Rattle.search_strengthening_claims.proofs.tested_facts.is_position.Given as goal

abbrev pub invariant-loop-position : goal.invariant-loop-position
invariant-loop-position l = is_position (drop l.position-index l.positions) l.symbol ≡ is_position l.positions l.symbol
