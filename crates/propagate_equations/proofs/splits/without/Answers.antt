use Rattle.std.proofs.Common.{ap, sym, subst, ◌∙◌}
use Rattle.nf_trees.specs.NormalTerms.{polynomial_of}
use Rattle.nf_terms.specs.Normal.{IsNormal}
use Rattle.nf_trees.specs.View.{term_in}
use Rattle.propagate_equations.proofs.Without.{rest_normal, without_place}
use Rattle.propagate_equations.proofs.splits.without.Goals as goal

pub from_terms-requires : goal.from_terms-requires
from_terms-requires c =
    let e = without_place term_in c.args.place c.args.terms.now c.new-monos.ensures.items c.in_ok-push_terms.ensures c.in_ok-push_terms-2.ensures in
    subst (λ xs. IsNormal (polynomial_of xs)) (sym e) (rest_normal c.args.place c.args.terms.now c.requires.within c.requires.normal)

pub returns : goal.returns
returns c = c.from_terms.ensures
    ∙ ap polynomial_of (without_place term_in c.args.place c.args.terms.now c.new-monos.ensures.items c.in_ok-push_terms.ensures c.in_ok-push_terms-2.ensures)
