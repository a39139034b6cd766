use Rattle.std.proofs.Common.{◌≡◌, pos, ◌+ℤ◌, ◌&&◌, false, map, FitsSigned, to_z, of_z, arith, sym, ◌∙◌, rules}
use Rattle.std.specs.Int.{w128}
use Rattle.std.proofs.lemmas.Int.{ints, to_z-of_z}
use Rattle.nf_rel.specs.Literals.{meets, meets_all}
use Rattle.nf_rel.specs.View.{literal_in}
use Rattle.nf_rel.proofs.Sides.{walked}
use Rattle.nf_rel.proofs.intervals.none_between.Goals as goal

pub returns-then-meets_beside : goal.returns-then-meets_beside
returns-then-meets_beside c = (
  λ e. absurd (cc e),
  λ f. sym (f (to_z w128 c.loop-number.number-bits) c.loop-number.invariant.above c.loop-number.invariant.below) ∙ sym c.meets_beside.ensures
      ∙ c.if-meets_beside.true,
)

pub loop-number-preserved : goal.loop-number-preserved
loop-number-preserved c =
    let n = to_z w128 c.loop-number.number-bits in
    let f : FitsSigned w128 (n +ℤ pos 1) = search rules in
    let e : to_z w128 (of_z w128 (n +ℤ pos 1)) ≡ n +ℤ pos 1 = to_z-of_z w128 (n +ℤ pos 1) f in
    let above = c.loop-number.invariant.above in
    let test = c.loop-number-test.true in
    record {
      above = omega (arith, ints, e, above);
      below = omega (arith, ints, e, test);
      none = walked (λ v. meets c.args.k v c.args.bound.now && meets_all c.args.dir.now v (map literal_in c.args.list.now)) false c.args.low.now n
          (to_z w128 (of_z w128 (n +ℤ pos 1))) e c.loop-number.invariant.none (sym c.meets_beside.ensures ∙ c.if-meets_beside.false);
    }
