use Rattle.std.proofs.Common.{◌≡◌, ℕ, false, length}
use Rattle.fs_variable_sets.specs.Flows.{has_at}
use Rattle.fs_variable_sets.proofs.flows.empty_sets.Given as goal

abbrev pub invariant-loop : goal.invariant-loop
invariant-loop l = ((q x : ℕ) → has_at l.out.items q x ≡ false) × (length l.out.items ≡ l.counter)
