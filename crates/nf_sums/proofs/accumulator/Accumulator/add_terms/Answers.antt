use Rattle.std.proofs.Common.{sym, subst, ◌∙◌}
use Rattle.nf_terms.specs.Normal.{IsNormal}
use Rattle.nf_terms.specs.RawSums.{raw_sum, IsNormalFormOf}
use Rattle.nf_sums.specs.RawSumForms.{with_terms}
use Rattle.nf_sums.proofs.Exact.{sum_gives}
use Rattle.nf_sums.proofs.Grown.{all_more}
use Rattle.nf_sums.proofs.accumulator.Accumulator.add_terms.Goals as goal

pub returns : goal.returns
returns c =
    let normal : IsNormal c.args.self = subst IsNormal c.self.view_is c.self.invariant.normal in
    sum_gives _ _ normal c.monos.ensures.normal c.requires.narrow c.requires.small _
    (subst (λ x. IsNormalFormOf x (raw_sum c.args.self c.args.p.now))
    (sym (c.in_ok-add_all.ensures.sum ∙ (λ k. with_terms (c.self.view_is k) (c.monos.ensures.same k))))
    (all_more c.args.self c.args.p.now normal c.monos.ensures.normal c.requires.narrow c.requires.small))
