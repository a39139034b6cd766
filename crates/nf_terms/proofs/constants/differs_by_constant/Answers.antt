use Rattle.std.proofs.Common.{map, drop, ◌+◌, ◌≤◌, length, is_eq, arith, ap, sym, ◌∙◌}
use Rattle.std.specs.Ordering.{ordering_then}
use Rattle.std.proofs.lemmas.List.{drop_all}
use Rattle.nf_trees.specs.NormalTerms.{polynomial_of}
use Rattle.nf_trees.specs.View.{term_in}
use Rattle.nf_trees.specs.Order.{same_polynomial}
use Rattle.nf_terms.specs.Normal.{part_with_atoms}
use Rattle.nf_terms.proofs.Steps.{nothing_left}
use Rattle.nf_terms.proofs.Differing.{part_of, passed, other_ends, both_go_on, differ_where, same_where}
use Rattle.nf_terms.proofs.constants.differs_by_constant.Goals as goal

-- src/constants.rt:61:1
pub returns : goal.returns
returns c =
    let over : length c.deref-mono-items.result.now ≤ c.loop-mono.mono-index = omega (arith, c.loop-mono-test.false) in
    c.is_empty.ensures
    ∙ nothing_left c.loop-mono.rest.now c.loop-mono.invariant.0
    ∙ ap (λ ts. same_polynomial (part_with_atoms (polynomial_of (map term_in ts))) (part_with_atoms (polynomial_of (map term_in c.loop-mono.rest.now))))
    (sym (drop_all c.loop-mono.mono-index c.deref-mono-items.result.now over))
    ∙ c.loop-mono.invariant.1

pub loop-mono-preserved-then-not-has_atoms : goal.loop-mono-preserved-then-not-has_atoms
loop-mono-preserved-then-not-has_atoms c =
    let ls = c.deref-mono-items.result.now in
    let i = c.loop-mono.mono-index in (
      c.loop-mono.invariant.0,
      ap (λ p. same_polynomial p (part_of c.loop-mono.rest.now)) (passed ls i c.loop-mono-item.result c.loop-mono-test.true c.loop-mono-item.is
          (sym c.has_atoms.ensures ∙ c.if-not-has_atoms.true))
          ∙ c.loop-mono.invariant.1,
    )

pub returns-in_default : goal.returns-in_default
returns-in_default c =
    let ls = c.deref-mono-items.result.now in
    let i = c.loop-mono.mono-index in
    sym (other_ends ls i c.loop-mono-item.result c.loop-mono.rest.now c.loop-mono-test.true c.loop-mono-item.is
    (sym c.has_atoms.ensures ∙ c.if-not-has_atoms.false) c.in_default.ensures.cases)
    ∙ c.loop-mono.invariant.1

pub returns-then-not-is_eq : goal.returns-then-not-is_eq
returns-then-not-is_eq c =
    let ls = c.deref-mono-items.result.now in
    let i = c.loop-mono.mono-index in
    let both = both_go_on ls i c.loop-mono-item.result c.loop-mono.rest.now c.in-Some.after.now c.in-Some.other.now c.loop-mono-test.true
    c.loop-mono-item.is (sym c.has_atoms.ensures ∙ c.if-not-has_atoms.false) c.in-Some.ensures.cases.0 c.loop-mono.invariant.0 in
    let same = c.is_eq.ensures ∙ ap is_eq (c.then.ensures ∙ ap (λ o. ordering_then o c.cmp.result) c.compare_monos.ensures
    ∙ ap (ordering_then _) c.cmp.ensures) in
    sym (both ∙ differ_where _ _ (sym same ∙ c.if-not-is_eq.true)) ∙ c.loop-mono.invariant.1

pub loop-mono-preserved : goal.loop-mono-preserved
loop-mono-preserved c =
    let ls = c.deref-mono-items.result.now in
    let i = c.loop-mono.mono-index in
    let both = both_go_on ls i c.loop-mono-item.result c.loop-mono.rest.now c.in-Some.after.now c.in-Some.other.now c.loop-mono-test.true
    c.loop-mono-item.is (sym c.has_atoms.ensures ∙ c.if-not-has_atoms.false) c.in-Some.ensures.cases.0 c.loop-mono.invariant.0 in
    let same = c.is_eq.ensures ∙ ap is_eq (c.then.ensures ∙ ap (λ o. ordering_then o c.cmp.result) c.compare_monos.ensures
    ∙ ap (ordering_then _) c.cmp.ensures) in (
      c.skip_constants-rest-in-loop-mono.ensures.begins,
      ap (same_polynomial (part_of (drop (i + 1) ls))) c.skip_constants-rest-in-loop-mono.ensures.same
          ∙ sym (both ∙ same_where _ _ (sym same ∙ c.if-not-is_eq.false))
          ∙ c.loop-mono.invariant.1,
    )
