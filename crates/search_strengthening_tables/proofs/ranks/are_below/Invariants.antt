use Rattle.std.proofs.Common.{◌≡◌, drop, nat_lt}
use Rattle.std.specs.List.{list_all}
use Rattle.search_strengthening_tables.proofs.ranks.are_below.Given as goal

abbrev pub invariant-loop-target : goal.invariant-loop-target
invariant-loop-target l = list_all (λ t. nat_lt t l.count) (drop l.target-index l.targets) ≡ list_all (λ t. nat_lt t l.count) l.targets
