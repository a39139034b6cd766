use Rattle.std.proofs.Common.{ℤ, cond, Some, FitsSigned, ap, sym, ◌∙◌, rules}
use Rattle.std.specs.Int.{w128}
use Rattle.std.proofs.lemmas.Int.{to_z-of_z}
use Rattle.nf_terms.specs.Order.{same_polynomial}
use Rattle.nf_refutation.specs.BoundTables.{bound_in, is_below}
use Rattle.nf_refutation.proofs.Additions.{below_compares, tightens_needless, tightens_better}
use Rattle.nf_refutation.proofs.bound_table.bound_from_below.Goals as goal

pub returns-then-is_below : goal.returns-then-is_below
returns-then-is_below c = tightens_needless is_below below_compares c.args.dir.now c.args.bound.now c.args.lower.now
    (sym c.is_below.ensures ∙ c.if-is_below.true)

pub returns : goal.returns
returns c =
    let e = c.args.dir.now in
    let b = c.args.bound.now in
    let m = c.args.lower.now in
    let f : FitsSigned w128 b = search rules in
    tightens_better is_below below_compares e b m c.insert.new.self (sym c.is_below.ensures ∙ c.if-is_below.false)
    (λ d. c.in_ok-insert.ensures.updates.0 (record { ref_ptr = (0, 0); now = d })
    ∙ ap (λ (z : ℤ). cond (same_polynomial e d) (Some z) (bound_in m d)) (to_z-of_z w128 b f))
