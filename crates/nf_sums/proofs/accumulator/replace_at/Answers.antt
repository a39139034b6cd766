use Rattle.std.proofs.Common.{set, rules, FitsSigned, ap, sym, ◌∙◌}
use Rattle.std.specs.Int.{w128}
use Rattle.std.proofs.lemmas.Int.{to_z-of_z}
use Rattle.nf_sums.proofs.Terms.{terms_in}
use Rattle.nf_sums.proofs.Placed.{removed_at, changed_at}
use Rattle.nf_sums.proofs.accumulator.replace_at.Goals as goal

pub returns-then-is_zero : goal.returns-then-is_zero
returns-then-is_zero c =
    ap terms_in c.remove.ensures.items ∙ removed_at c.args.place c.args.terms.now.items c.args.total.now c.requires (sym c.is_zero.ensures ∙ c.if-is_zero.true)

pub returns-else-is_zero : goal.returns-else-is_zero
returns-else-is_zero c =
    let f : FitsSigned w128 c.args.total.now = search rules in
    ap (λ z. terms_in (set c.args.terms.now.items c.args.place (c.index_mut.result.now.0, z))) (to_z-of_z w128 c.args.total.now f)
    ∙ changed_at c.args.place c.args.terms.now.items c.index_mut.result.now c.args.total.now c.requires c.index_mut.ensures.value
    (sym c.is_zero.ensures ∙ c.if-is_zero.false)
