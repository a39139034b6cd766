use Rattle.std.proofs.Common.{map, ap, sym, ◌∙◌}
use Rattle.std.proofs.lemmas.List.{at_drop_all}
use Rattle.fs_model.proofs.Lists.{map_drop_next}
use Rattle.nf_trees.specs.NormalTerms.{polynomial_of}
use Rattle.nf_terms.specs.Normal.{begins_with_atoms}
use Rattle.nf_trees.specs.View.{term_in}
use Rattle.nf_terms.proofs.Differing.{part_of, passed}
use Rattle.nf_terms.proofs.InOrder.{part_to_end}
use Rattle.nf_terms.proofs.constants.skip_constants.Goals as goal

pub returns-then-has_atoms-clause-same : goal.returns-then-has_atoms-clause-same
returns-then-has_atoms-clause-same c = ap part_of (part_to_end c.args.terms.now c.loop-place.place) ∙ c.loop-place.invariant

pub returns-then-has_atoms-clause-begins : goal.returns-then-has_atoms-clause-begins
returns-then-has_atoms-clause-begins c =
    let xs = c.args.terms.now in
    let i = c.loop-place.place in
    let x = c.index-terms-place.result in
    ap (λ ts. begins_with_atoms (polynomial_of (map term_in ts))) (part_to_end xs i)
    ∙ ap (λ ts. begins_with_atoms (polynomial_of ts)) (map_drop_next term_in xs i x c.loop-place-test.true c.index-terms-place.is)
    ∙ sym c.has_atoms.ensures
    ∙ c.if-has_atoms.true

pub loop-place-preserved : goal.loop-place-preserved
loop-place-preserved c =
    passed c.args.terms.now c.loop-place.place c.index-terms-place.result c.loop-place-test.true c.index-terms-place.is
    (sym c.has_atoms.ensures ∙ c.if-has_atoms.false)
    ∙ c.loop-place.invariant

pub returns-clause-same : goal.returns-clause-same
returns-clause-same c = sym (at_drop_all part_of c.args.terms.now c.loop-place.place c.loop-place-test.false) ∙ c.loop-place.invariant
