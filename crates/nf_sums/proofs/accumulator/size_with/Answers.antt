use Rattle.std.proofs.Common.{arith, sym, ◌∙◌}
use Rattle.nf_sums.proofs.Placed.{size_stays, size_falls}
use Rattle.nf_sums.proofs.accumulator.size_with.Goals as goal

pub returns-then-not-is_zero : goal.returns-then-not-is_zero
returns-then-not-is_zero c =
    c.requires.measured
    ∙ sym (size_stays c.args.terms.now c.args.place c.args.coefficient.now c.requires.within (sym c.is_zero.ensures ∙ c.if-not-is_zero.true))

pub returns : goal.returns
returns c =
    let f = size_falls c.args.terms.now c.args.place c.index-terms-place.result c.args.coefficient.now c.requires.within c.index-terms-place.is
    (sym c.is_zero.ensures ∙ c.if-not-is_zero.false) in
    omega (arith, f)
