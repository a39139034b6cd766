use Rattle.std.proofs.Common.{rules, not, ◌||◌, int_lt, FitsSigned, ap, sym, ◌∙◌}
use Rattle.std.specs.Int.{w128}
use Rattle.std.specs.Option.{option_copied}
use Rattle.std.proofs.lemmas.Int.{to_z-of_z}
use Rattle.nf_terms.specs.Normal.{constant_part}
use Rattle.nf_trees.specs.View.{polynomial_in}
use Rattle.nf_terms.proofs.InOrder.{rises_over_none, rises_over_first}
use Rattle.nf_terms.proofs.ordered.write_rises.Goals as goal

pub returns-in-None : goal.returns-in-None
returns-in-None c = sym (rises_over_none (polynomial_in c.args.index.now) c.args.writes.now (sym c.first.ensures.value ∙ ap option_copied c.in-None.is))

pub returns-then-not-differs_by_constant : goal.returns-then-not-differs_by_constant
returns-then-not-differs_by_constant c =
    let index = polynomial_in c.args.index.now in
    let next = c.in-Some.field-0.now in
    ap not c.if-not-differs_by_constant.true
    ∙ sym (rises_over_first index c.args.writes.now next (sym c.first.ensures.value ∙ ap option_copied c.in-Some.is)
    ∙ ap (λ b. not b || int_lt (constant_part index) (constant_part (polynomial_in next.0)))
    (sym c.differs_by_constant.ensures ∙ c.if-not-differs_by_constant.true))

pub returns-else-not-differs_by_constant : goal.returns-else-not-differs_by_constant
returns-else-not-differs_by_constant c =
    let index = polynomial_in c.args.index.now in
    let next = c.in-Some.field-0.now in
    let ours = c.constant_part.result in
    let theirs = c.constant_part-else-not-differs_by_constant.result in
    let ours_fits : FitsSigned w128 ours = search rules in
    let theirs_fits : FitsSigned w128 theirs = search rules in
    (λ k. int_lt (to_z-of_z w128 ours ours_fits k) (to_z-of_z w128 theirs theirs_fits k))
    ∙ (λ k. int_lt (c.constant_part.ensures k) (c.constant_part-else-not-differs_by_constant.ensures k))
    ∙ sym (rises_over_first index c.args.writes.now next (sym c.first.ensures.value ∙ ap option_copied c.in-Some.is)
    ∙ ap (λ b. not b || int_lt (constant_part index) (constant_part (polynomial_in next.0)))
    (sym c.differs_by_constant.ensures ∙ c.if-not-differs_by_constant.false))
