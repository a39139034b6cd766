use Rattle.std.proofs.Common.{◌≡◌, ℕ, length}
use Rattle.std.specs.List.{slice_index_or}
use Rattle.hls_sched.specs.declared.arrivals.Arrivals.TheVariants as variants
use Rattle.hls_sched.proofs.arrivals.none_noted.Given as goal

abbrev pub invariant-none : goal.invariant-none
invariant-none l = record {
  count : length l.table.items ≡ l.counter;
  none : (r : ℕ) → slice_index_or l.table.items r variants.Never ≡ variants.Never;
}
