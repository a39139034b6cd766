use Rattle.std.proofs.Common.{ℤ, cond, Some, FitsSigned, ap, sym, ◌∙◌, rules}
use Rattle.std.specs.Int.{w128}
use Rattle.std.proofs.lemmas.Int.{to_z-of_z}
use Rattle.nf_terms.specs.Order.{same_polynomial}
use Rattle.nf_refutation.specs.BoundTables.{bound_in, is_above}
use Rattle.nf_refutation.proofs.Additions.{above_compares, tightens_needless, tightens_better}
use Rattle.nf_refutation.proofs.bound_table.bound_from_above.Goals as goal

pub returns-then-is_above : goal.returns-then-is_above
returns-then-is_above c = tightens_needless is_above above_compares c.args.dir.now c.args.bound.now c.args.upper.now
    (sym c.is_above.ensures ∙ c.if-is_above.true)

pub returns : goal.returns
returns c =
    let e = c.args.dir.now in
    let b = c.args.bound.now in
    let m = c.args.upper.now in
    let f : FitsSigned w128 b = search rules in
    tightens_better is_above above_compares e b m c.insert.new.self (sym c.is_above.ensures ∙ c.if-is_above.false)
    (λ d. c.in_ok-insert.ensures.updates.0 (record { ref_ptr = (0, 0); now = d })
    ∙ ap (λ (z : ℤ). cond (same_polynomial e d) (Some z) (bound_in m d)) (to_z-of_z w128 b f))
