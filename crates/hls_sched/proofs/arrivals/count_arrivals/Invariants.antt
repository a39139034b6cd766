use Rattle.std.proofs.Common.{◌≡◌, ℕ, ◌<◌, length}
use Rattle.std.specs.List.{slice_index_or}
use Rattle.hls_sched.specs.declared.arrivals.Arrivals.TheVariants as variants
use Rattle.hls_sched.specs.Arrivals.{arrivals_of}
use Rattle.hls_sched.proofs.Noting.{first_sources}
use Rattle.hls_sched.proofs.arrivals.count_arrivals.Given as goal

abbrev pub invariant-loop-q : goal.invariant-loop-q
invariant-loop-q l = record {
  all : l.q-end ≡ length l.m.states;
  count : length l.table.items ≡ length l.m.states;
  known : (r : ℕ) → r < length l.m.states → slice_index_or l.table.items r variants.Never ≡ arrivals_of (first_sources l.m l.q r);
}
