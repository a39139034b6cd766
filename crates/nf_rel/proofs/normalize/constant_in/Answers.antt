use Rattle.std.proofs.Common.{rules, ◌+◌, ◌≤◌, ap, sym, subst, ◌∙◌, FitsSigned}
use Rattle.std.specs.Prelude.{unsigned_abs}
use Rattle.std.specs.Int.{w128}
use Rattle.std.proofs.lemmas.Int.{to_z-of_z}
use Rattle.nf_terms.specs.Normal.{constant_part}
use Rattle.nf_terms.specs.TermLimits.{weight_limit}
use Rattle.nf_sums.proofs.Constants.{constant_is}
use Rattle.nf_rel.proofs.Directions.{constant_small}
use Rattle.nf_rel.proofs.normalize.constant_in.Goals as goal

pub returns-clause-sum : goal.returns-clause-sum
returns-clause-sum c =
    let f : FitsSigned w128 c.constant_part.result = search rules in
    to_z-of_z w128 c.constant_part.result f
    ∙ c.constant_part.ensures ∙ ap constant_part c.tree.ensures.same ∙ constant_is c.args.p.now c.tree.ensures.normal.ordered

pub returns-clause-small : goal.returns-clause-small
returns-clause-small c = λ some.
    let f : FitsSigned w128 c.constant_part.result = search rules in
    let sum = to_z-of_z w128 c.constant_part.result f
    ∙ c.constant_part.ensures ∙ ap constant_part c.tree.ensures.same ∙ constant_is c.args.p.now c.tree.ensures.normal.ordered in
    subst (λ z. unsigned_abs z + 1 ≤ weight_limit) (sym sum) (constant_small c.args.p.now c.tree.ensures.normal some)
