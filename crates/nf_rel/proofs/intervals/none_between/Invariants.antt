use Rattle.std.proofs.Common.{◌≡◌, ℤ, ◌≤ℤ◌, ◌<ℤ◌, ◌-ℤ◌, false, map}
use Rattle.std.specs.Prelude.{◌&&◌, unsigned_abs}
use Rattle.nf_rel.specs.Literals.{meets, meets_all}
use Rattle.nf_rel.specs.View.{literal_in}
use Rattle.nf_rel.proofs.intervals.none_between.Given as goal

abbrev pub decreases-loop-number : goal.decreases-loop-number
decreases-loop-number l = unsigned_abs (l.high -ℤ l.number)

abbrev pub invariant-loop-number : goal.invariant-loop-number
invariant-loop-number l = record {
  above : l.low ≤ℤ l.number;
  below : l.number ≤ℤ l.high;
  none : (v : ℤ) → l.low ≤ℤ v → v <ℤ l.number → meets l.k v l.bound && meets_all l.dir v (map literal_in l.list) ≡ false;
}
