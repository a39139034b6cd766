use Rattle.std.proofs.Common.{ℤ, cond, true, FitsSigned, ap, ◌∙◌, rules}
use Rattle.std.specs.Int.{w128}
use Rattle.std.specs.Ordering.{int_cmp, ordering_then, is_eq}
use Rattle.std.proofs.lemmas.Int.{to_z-of_z}
use Rattle.nf_terms.specs.Order.{cmp_polynomial}
use Rattle.nf_refutation.specs.BoundTables.{has_number}
use Rattle.nf_refutation.proofs.Additions.{number_added}
use Rattle.nf_refutation.proofs.bound_table.add_number.Goals as goal

pub returns : goal.returns
returns c =
    let e = c.args.dir.now in
    let b = c.args.number.now in
    let s = c.args.numbers.now in
    let f : FitsSigned w128 b = search rules in
    number_added s c.insert.new.self e b
    (λ d a. c.in_ok-insert.ensures.updates.0 (a, record { ref_ptr = (0, 0); now = d })
    ∙ ap (λ (z : ℤ). cond (is_eq (ordering_then (int_cmp z a) (cmp_polynomial e d))) true (has_number s d a)) (to_z-of_z w128 b f))
