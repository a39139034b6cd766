use Rattle.std.proofs.Common.{◌≡◌, ◌+◌, ◌-◌, ◌/◌, ◌<◌, true, false, length, arith, ap, sym, ◌∙◌}
use Rattle.std.specs.Ordering.{is_lt}
use Rattle.nf_trees.specs.View.{monomial_in}
use Rattle.nf_trees.specs.Order.{cmp_monomial}
use Rattle.nf_sums.proofs.Placed.{before_more, behind_here}
use Rattle.nf_sums.proofs.accumulator.place_of.Goals as goal

pub loop-low-preserved-then-is_lt : goal.loop-low-preserved-then-is_lt
loop-low-preserved-then-is_lt c =
    let less : is_lt (cmp_monomial (monomial_in c.index-terms-middle.result.0) (monomial_in c.args.mono.now)) ≡ true =
    sym (c.is_lt.ensures ∙ ap is_lt c.compare_monos.ensures) ∙ c.if-is_lt.true in
    let within : c.loop-low.low + (c.loop-low.high - c.loop-low.low) / 2 < length c.args.terms.now =
    omega (arith, c.loop-low-test.true, c.loop-low.invariant.high) in
    record {
      low = omega (arith, c.loop-low-test.true);
      high = c.loop-low.invariant.high;
      before = before_more (monomial_in c.args.mono.now) c.args.terms.now
          (c.loop-low.low + (c.loop-low.high - c.loop-low.low) / 2) c.index-terms-middle.result c.requires within c.index-terms-middle.is less;
      behind = c.loop-low.invariant.behind;
    }

pub loop-low-preserved : goal.loop-low-preserved
loop-low-preserved c =
    let more : is_lt (cmp_monomial (monomial_in c.index-terms-middle.result.0) (monomial_in c.args.mono.now)) ≡ false =
    sym (c.is_lt.ensures ∙ ap is_lt c.compare_monos.ensures) ∙ c.if-is_lt.false in
    let within : c.loop-low.low + (c.loop-low.high - c.loop-low.low) / 2 < length c.args.terms.now =
    omega (arith, c.loop-low-test.true, c.loop-low.invariant.high) in
    record {
      low = omega (arith, c.loop-low-test.true);
      high = omega (arith, within);
      before = c.loop-low.invariant.before;
      behind = behind_here (monomial_in c.args.mono.now) c.args.terms.now
          (c.loop-low.low + (c.loop-low.high - c.loop-low.low) / 2) c.index-terms-middle.result within c.index-terms-middle.is more;
    }
