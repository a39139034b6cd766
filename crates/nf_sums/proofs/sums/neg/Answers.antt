use Rattle.std.proofs.Common.{ap, sym, subst, ◌∙◌}
use Rattle.nf_terms.specs.Normal.{IsNormal}
use Rattle.nf_terms.specs.RawSums.{raw_negation}
use Rattle.nf_sums.proofs.Forms.{negation_normal}
use Rattle.nf_sums.proofs.sums.neg.Goals as goal

pub from_terms-requires : goal.from_terms-requires
from_terms-requires c =
    subst IsNormal (sym (c.in_ok-terms.ensures ∙ ap raw_negation c.monos.ensures.same)) (negation_normal c.args.p.now c.monos.ensures.normal)
