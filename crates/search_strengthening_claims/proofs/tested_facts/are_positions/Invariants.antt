use Rattle.std.proofs.Common.{◌≡◌, drop}
use Rattle.std.specs.List.{list_all}
use Rattle.sym_facts.specs.Pairings.{is_position}
use Rattle.search_strengthening_claims.proofs.tested_facts.are_positions.Given as goal

abbrev pub invariant-loop-symbol : goal.invariant-loop-symbol
invariant-loop-symbol l = list_all (is_position l.positions) (drop l.symbol-index l.symbols) ≡ list_all (is_position l.positions) l.symbols
