use Rattle.std.proofs.Common.{◌≡◌, ◌-◌, ◌≤◌, true, map, take, drop, length}
use Rattle.nf_trees.specs.NormalTerms.{polynomial_of}
use Rattle.nf_trees.specs.View.{monomial_in, term_in}
use Rattle.nf_sums.specs.Accumulators.{stand_before, begins_behind}
use Rattle.nf_sums.proofs.accumulator.place_of.Given as goal

abbrev pub invariant-loop-low : goal.invariant-loop-low
invariant-loop-low l = record {
  low : l.low ≤ l.high;
  high : l.high ≤ length l.terms;
  before : stand_before (monomial_in l.mono) (polynomial_of (map term_in (take l.low l.terms))) ≡ true;
  behind : begins_behind (monomial_in l.mono) (polynomial_of (map term_in (drop l.high l.terms))) ≡ true;
}

abbrev pub decreases-loop-low : goal.decreases-loop-low
decreases-loop-low l = l.high - l.low
