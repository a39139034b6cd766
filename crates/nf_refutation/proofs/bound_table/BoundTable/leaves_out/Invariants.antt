use Rattle.std.proofs.Common.{◌≡◌, ℤ, ◌≤ℤ◌, ◌<ℤ◌, ◌-ℤ◌, true}
use Rattle.std.specs.Prelude.{unsigned_abs}
use Rattle.nf_refutation.specs.BoundTables.{has_number}
use Rattle.nf_refutation.proofs.bound_table.BoundTable.leaves_out.Given as goal

abbrev pub decreases-loop-number : goal.decreases-loop-number
decreases-loop-number l = unsigned_abs (l.high -ℤ l.number)

abbrev pub invariant-loop-number : goal.invariant-loop-number
invariant-loop-number l = record {
  above : l.low ≤ℤ l.number;
  below : l.number ≤ℤ l.high;
  all : (v : ℤ) → l.low ≤ℤ v → v <ℤ l.number → has_number l.self.left_out l.dir v ≡ true;
}
