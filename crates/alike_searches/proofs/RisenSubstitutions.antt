-- What a substitution gives rises; and what it gives for a symbol.
use Rattle.std.proofs.Common.{◌≡◌, true, arith, refl, ap, sym, subst, ◌∙◌, List}
use Rattle.std.proofs.lemmas.Int.{ints}
use Rattle.nf_trees.specs.NormalTerms.{Polynomial, ArrayTerm, Writes, Zero, Plus, Over, NoWrites, Write}
use Rattle.nf_terms.specs.RawSums.{raw_difference}
use Rattle.nf_terms.specs.Computed.{Done, after}
use Rattle.fs_model.specs.declared.sides.Pos.{Pos}
use Rattle.nf_trees.specs.declared.tree.Base.{Base}
use Rattle.nf_trees.specs.declared.tree.Base.TheVariants as base
use Rattle.nf_terms.specs.declared.form.Nf.{Nf}
use Rattle.nf_terms.proofs.Computed.{same_Done}
use Rattle.nf_sums.specs.OrderedSums.{worth_of}
use Rattle.nf_sums.specs.Operations.{normal_sum, normal_difference, number}
use Rattle.nf_sums.proofs.Collecting.{worth-form}
use Rattle.nf_sums.proofs.Worth.{worth-negation, worth-difference}
use Rattle.nf_sums.proofs.Values.{goes_done}
use Rattle.nf_arrays.specs.Writes.{write_array}
use Rattle.nf_substitution.specs.Vectors.{array_of_base}
use Rattle.nf_substitution.specs.Substitution.{atoms_substituted, terms_substituted, writes_substituted, array_substituted, polynomial_substituted}
use Rattle.alike_searches.specs.Risen.{is_risen, is_risen_array, IsRisenVector}
use Rattle.alike_searches.proofs.RisenForms.{settled_by_worth}
use Rattle.alike_searches.proofs.Computing.{difference_is}
use Rattle.alike_searches.proofs.RisenOperations.{sum_rises, difference_rises, write_rises}

terms_rise : (v : List (Pos × Nf)) (p so_far r : Polynomial) → is_risen so_far ≡ true → terms_substituted v p so_far ≡ Done r → is_risen r ≡ true
terms_rise v Zero so_far r h e = subst (λ z. is_risen z ≡ true) (same_Done so_far r e) h
terms_rise v (Plus m c p) so_far r h e =
    let s = goes_done (after (number c) (λ n. atoms_substituted v m n)) (λ t. after (normal_sum so_far t) (λ u. terms_substituted v p u)) r e in
    let t = goes_done (normal_sum so_far s.middle) (λ u. terms_substituted v p u) r s.next in
    terms_rise v p t.middle r (sum_rises so_far s.middle t.middle t.first) t.next

pub substituted_rises : (v : List (Pos × Nf)) (p r : Polynomial) → polynomial_substituted v p ≡ Done r → is_risen r ≡ true
substituted_rises v p r e = terms_rise v p Zero r refl e

writes_rise : (v : List (Pos × Nf)) (ws : Writes) (so_far b : ArrayTerm) → is_risen_array so_far ≡ true → writes_substituted v ws so_far ≡ Done b
    → is_risen_array b ≡ true
writes_rise v NoWrites so_far b h e = subst (λ z. is_risen_array z ≡ true) (same_Done so_far b e) h
writes_rise v (Write i x ws) so_far b h e =
    let s = goes_done (terms_substituted v i Zero)
    (λ j. after (terms_substituted v x Zero) (λ y. after (write_array so_far j y) (λ a. writes_substituted v ws a))) b e in
    let t = goes_done (terms_substituted v x Zero) (λ y. after (write_array so_far s.middle y) (λ a. writes_substituted v ws a)) b s.next in
    let u = goes_done (write_array so_far s.middle t.middle) (λ a. writes_substituted v ws a) b t.next in
    writes_rise v ws u.middle b (write_rises so_far u.middle s.middle t.middle h (terms_rise v x Zero t.middle refl t.first) u.first) u.next

pub array_rises : (v : List (Pos × Nf)) (a b : ArrayTerm) → IsRisenVector v → array_substituted v a ≡ Done b → is_risen_array b ≡ true
array_rises v (Over b ws) c h e = writes_rise v ws (array_of_base v b) c (by_base b) e
  where
    by_base : (x : Base) → is_risen_array (array_of_base v x) ≡ true
    by_base base.Zero = refl
    by_base (base.Sym p) = h.arrays p

-- ---- terms that cancel

pub self_difference : (t r : Polynomial) → normal_difference t t ≡ Done r → r ≡ Zero
self_difference t r e =
    settled_by_worth r Zero (difference_rises t t r e) refl
    (λ f h. sym (ap (worth_of f) (difference_is t t r e)) ∙ worth-form f h (raw_difference t t)
    ∙ omega (arith, ints, worth-difference f t t, worth-negation f t))
