use Rattle.std.proofs.Common.{◌≡◌, ◌≤◌, length, drop}
use Rattle.nf_rel.proofs.Divided.{divisor_from}
use Rattle.nf_rel.proofs.divisors.divisor.Given as goal

abbrev pub invariant-loop-place : goal.invariant-loop-place
invariant-loop-place l = record {
  within : l.place ≤ length l.terms;
  so_far : l.divisor ≡ divisor_from (drop l.place l.terms);
}

abbrev pub decreases-loop-place : goal.decreases-loop-place
decreases-loop-place l = l.place
