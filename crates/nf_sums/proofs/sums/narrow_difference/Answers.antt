use Rattle.std.proofs.Common.{◌≡◌, true, arith, refl, ap, sym, subst, ◌∙◌}
use Rattle.nf_trees.specs.Measures.{weight_of}
use Rattle.nf_terms.specs.Normal.{ordered}
use Rattle.nf_terms.specs.RawSums.{raw_negation}
use Rattle.nf_sums.proofs.Exact.{difference_gives}
use Rattle.nf_sums.proofs.Forms.{difference_form, negation_normal, negation_weight}
use Rattle.nf_sums.proofs.sums.narrow_difference.Goals as goal

pub negate_terms-requires : goal.negate_terms-requires
negate_terms-requires c = omega (arith, ap weight_of c.monos.ensures.same, c.requires.narrow)

pub merged_owned-requires : goal.merged_owned-requires
merged_owned-requires c =
    let negated = c.in_ok-right.ensures ∙ ap raw_negation c.monos.ensures.same in
    record {
      left = subst (λ p. ordered p ≡ true) (sym c.in_ok-left.ensures.same) c.in_ok-left.ensures.normal.ordered;
      right = subst (λ p. ordered p ≡ true) (sym negated) (negation_normal c.args.r.now c.monos.ensures.normal).ordered;
      narrow = omega (arith, ap weight_of c.in_ok-left.ensures.same, ap weight_of negated, negation_weight c.args.r.now, c.requires.narrow);
    }

pub from_terms-requires : goal.from_terms-requires
from_terms-requires c =
    (difference_form _ _ _ _ _ c.in_ok-left.ensures.normal c.monos.ensures.normal c.in_ok-left.ensures.same
    (c.in_ok-right.ensures ∙ ap raw_negation c.monos.ensures.same) refl c.in_ok-terms.ensures c.requires.narrow c.requires.small).normal

pub returns : goal.returns
returns c =
    difference_gives _ _ c.in_ok-left.ensures.normal c.monos.ensures.normal c.requires.narrow c.requires.small _
    (difference_form _ _ _ _ _ c.in_ok-left.ensures.normal c.monos.ensures.normal c.in_ok-left.ensures.same
    (c.in_ok-right.ensures ∙ ap raw_negation c.monos.ensures.same) c.from_terms.ensures c.in_ok-terms.ensures c.requires.narrow c.requires.small)
