use Rattle.std.proofs.Common.{◌≡◌, true, arith, refl, ap, sym, subst}
use Rattle.nf_trees.specs.Measures.{weight_of}
use Rattle.nf_terms.specs.Normal.{ordered}
use Rattle.nf_sums.proofs.Exact.{sum_gives}
use Rattle.nf_sums.proofs.Forms.{sum_form, same_sum}
use Rattle.nf_sums.proofs.sums.narrow_sum.Goals as goal

pub merged_owned-requires : goal.merged_owned-requires
merged_owned-requires c = record {
  left = subst (λ p. ordered p ≡ true) (sym c.in_ok-left.ensures.same) c.in_ok-left.ensures.normal.ordered;
  right = subst (λ p. ordered p ≡ true) (sym c.in_ok-right.ensures.same) c.in_ok-right.ensures.normal.ordered;
  narrow = omega (arith, ap weight_of c.in_ok-left.ensures.same, ap weight_of c.in_ok-right.ensures.same, c.requires.narrow);
}

pub from_terms-requires : goal.from_terms-requires
from_terms-requires c =
    (sum_form _ _ _ c.in_ok-left.ensures.normal c.in_ok-right.ensures.normal
    (same_sum _ _ _ _ _ _ c.in_ok-left.ensures.same c.in_ok-right.ensures.same refl c.in_ok-terms.ensures) c.requires.narrow c.requires.small).normal

pub returns : goal.returns
returns c =
    sum_gives _ _ c.in_ok-left.ensures.normal c.in_ok-right.ensures.normal c.requires.narrow c.requires.small _
    (sum_form _ _ _ c.in_ok-left.ensures.normal c.in_ok-right.ensures.normal
    (same_sum _ _ _ _ _ _ c.in_ok-left.ensures.same c.in_ok-right.ensures.same c.from_terms.ensures c.in_ok-terms.ensures) c.requires.narrow c.requires.small)
