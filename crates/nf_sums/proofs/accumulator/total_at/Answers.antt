use Rattle.std.proofs.Common.{◌+ℤ◌, rules, FitsSigned, ap, sym, ◌∙◌}
use Rattle.std.specs.Int.{w128}
use Rattle.std.proofs.lemmas.Int.{to_z-of_z}
use Rattle.nf_sums.proofs.Placed.{coefficient_at, fits_more}
use Rattle.nf_sums.proofs.accumulator.total_at.Goals as goal

pub together-requires : goal.together-requires
together-requires c = fits_more c.args.terms.now c.args.place c.index-terms-place.result c.args.more.now c.requires.within c.index-terms-place.is
    c.requires.narrow

pub returns : goal.returns
returns c =
    let f : FitsSigned w128 c.together.result = search rules in
    to_z-of_z w128 c.together.result f ∙ c.together.ensures
    ∙ ap (λ d. c.args.more.now +ℤ d) (sym (coefficient_at c.args.terms.now c.args.place c.index-terms-place.result c.requires.within c.index-terms-place.is))
