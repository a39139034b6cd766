use Rattle.std.proofs.Common.{◌≡◌, pos, ◌+ℤ◌, true, FitsSigned, to_z, of_z, arith, sym, ◌∙◌, rules}
use Rattle.std.specs.Int.{w128}
use Rattle.std.proofs.lemmas.Int.{ints, to_z-of_z}
use Rattle.nf_rel.proofs.Sides.{walked}
use Rattle.nf_refutation.specs.BoundTables.{has_number}
use Rattle.nf_refutation.proofs.bound_table.BoundTable.leaves_out.Goals as goal

pub returns-then-not-has_number : goal.returns-then-not-has_number
returns-then-not-has_number c = (
  λ e. absurd (cc e),
  λ f. sym c.if-not-has_number.true ∙ c.has_number.ensures
      ∙ f (to_z w128 c.loop-number.number-bits) c.loop-number.invariant.above c.loop-number.invariant.below,
)

pub loop-number-preserved : goal.loop-number-preserved
loop-number-preserved c =
    let n = to_z w128 c.loop-number.number-bits in
    let f : FitsSigned w128 (n +ℤ pos 1) = search rules in
    let e : to_z w128 (of_z w128 (n +ℤ pos 1)) ≡ n +ℤ pos 1 = to_z-of_z w128 (n +ℤ pos 1) f in
    let above = c.loop-number.invariant.above in
    let test = c.loop-number-test.true in
    record {
      above = omega (arith, ints, e, above);
      below = omega (arith, ints, e, test);
      all = walked (λ v. has_number c.args.self.now.left_out c.args.dir.now v) true c.args.low.now n
          (to_z w128 (of_z w128 (n +ℤ pos 1))) e c.loop-number.invariant.all (sym c.has_number.ensures ∙ c.if-not-has_number.false);
    }
