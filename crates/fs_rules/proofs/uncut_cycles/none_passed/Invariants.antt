use Rattle.std.proofs.Common.{◌≡◌, ℕ, length}
use Rattle.std.specs.Prelude.{None}
use Rattle.fs_rules.specs.TargetWalks.{pass_at}
use Rattle.fs_rules.proofs.uncut_cycles.none_passed.Given as goal

abbrev pub invariant-none : goal.invariant-none
invariant-none l = record {
  none : (q : ℕ) → pass_at l.out.items q ≡ None;
  count : length l.out.items ≡ l.counter;
}
