use Rattle.std.proofs.Common.{refl}
use Rattle.nf_sums.proofs.Exact.{product_gives}
use Rattle.nf_sums.proofs.Forms.{product_form, same_product}
use Rattle.nf_sums.proofs.sums.narrow_product.Goals as goal

pub from_terms-requires : goal.from_terms-requires
from_terms-requires c =
    (product_form _ _ _ c.monos.ensures.normal c.monos-2.ensures.normal
    (same_product _ _ _ _ _ _ c.monos.ensures.same c.monos-2.ensures.same refl c.in_ok-terms.ensures) c.requires.narrow c.requires.small).normal

pub returns : goal.returns
returns c =
    product_gives _ _ c.monos.ensures.normal c.monos-2.ensures.normal c.requires.narrow c.requires.small _
    (product_form _ _ _ c.monos.ensures.normal c.monos-2.ensures.normal
    (same_product _ _ _ _ _ _ c.monos.ensures.same c.monos-2.ensures.same c.from_terms.ensures c.in_ok-terms.ensures) c.requires.narrow c.requires.small)
