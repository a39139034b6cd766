-- A literal has the symbols of its two sides.
use Rattle.std.proofs.Common.{◌≡◌, ℕ, zero, suc, ℤ, Bool, true, false, cond, refl, subst}
use Rattle.std.specs.Prelude.{pos, neg_ℤ}
use Rattle.std.specs.Int.{int_div_euclid, int_rem_euclid}
use Rattle.std.specs.Ordering.{int_eq}
use Rattle.std.specs.List.{list_all}
use Rattle.fs_model.specs.declared.parts.Rel.{Rel}
use Rattle.fs_model.specs.declared.parts.Rel.TheVariants as rel
use Rattle.nf_trees.specs.NormalTerms.{Polynomial, One, Times, Zero, Plus}
use Rattle.nf_terms.specs.Normal.{part_with_atoms, constant_sum}
use Rattle.nf_terms.specs.RawSums.{raw_negation}
use Rattle.nf_terms.specs.Symbols.{symbols_of_monomial, symbols_of}
use Rattle.nf_terms.specs.Computed.{Done}
use Rattle.nf_terms.specs.declared.symbols.Sort.{Sort as TermSort}
use Rattle.fs_model.specs.declared.sides.Pos.{Pos}
use Rattle.nf_sums.specs.Operations.{normal_difference}
use Rattle.nf_sums.proofs.Values.{goes_done}
use Rattle.sym_facts.proofs.Passing.{front, back, together}
use Rattle.sym_facts.proofs.Results.{subtracted_within, negation_within}
use Rattle.nf_rel.specs.declared.kind.Kind.TheVariants.{Eq, Ne}
use Rattle.nf_rel.specs.Literals.{NormalLiteral, True, False, Is, truth, common_divisor, divide_coefficients, begins_positive, signed_number, Form, AtLeastZero}
use Rattle.nf_rel.specs.Literals.{IsZero, IsNotZero, form_holds, bounded_literal, bounded_by, literal_form, one, against_zero, literal}
use Rattle.sym_facts.specs.Pairings.{literal_within}

module _ (test : Pos × TermSort → Bool) where
  part_within : (p : Polynomial) → list_all test (symbols_of p) ≡ true → list_all test (symbols_of (part_with_atoms p)) ≡ true
  part_within Zero h = refl
  part_within (Plus One c p) h = part_within p h
  part_within (Plus (Times a m) c p) h =
      together test (symbols_of_monomial (Times a m)) (symbols_of (part_with_atoms p)) (front test (symbols_of_monomial (Times a m)) (symbols_of p) h)
      (part_within p (back test (symbols_of_monomial (Times a m)) (symbols_of p) h))

  divided_within : (p : Polynomial) (d : ℤ) → list_all test (symbols_of p) ≡ true → list_all test (symbols_of (divide_coefficients p d)) ≡ true
  divided_within Zero d h = refl
  divided_within (Plus m c p) d h =
      together test (symbols_of_monomial m) (symbols_of (divide_coefficients p d)) (front test (symbols_of_monomial m) (symbols_of p) h)
      (divided_within p d (back test (symbols_of_monomial m) (symbols_of p) h))

  truth_within : (b : Bool) → literal_within test (truth b) ≡ true
  truth_within true = refl
  truth_within false = refl

  chosen : (b : Bool) (l m : NormalLiteral) → literal_within test l ≡ true → literal_within test m ≡ true → literal_within test (cond b l m) ≡ true
  chosen true l m h g = h
  chosen false l m h g = g

  bounded_within : (f : Form) (b : Bool) (d : Polynomial) (g : ℕ) (c : ℤ) → list_all test (symbols_of d) ≡ true
      → literal_within test (bounded_literal f b d g c) ≡ true
  bounded_within AtLeastZero true d g c h = h
  bounded_within AtLeastZero false d g c h = h
  bounded_within IsZero b d g c h = chosen (int_eq (int_rem_euclid c (pos g)) (pos 0))
      (Is d Eq (signed_number b (neg_ℤ (int_div_euclid c (pos g))))) False h refl
  bounded_within IsNotZero b d g c h = chosen (int_eq (int_rem_euclid c (pos g)) (pos 0))
      (Is d Ne (signed_number b (neg_ℤ (int_div_euclid c (pos g))))) True h refl

  bounded_by_within : (f : Form) (q : Polynomial) (g : ℕ) (c : ℤ) → list_all test (symbols_of q) ≡ true → literal_within test (bounded_by f q g c) ≡ true
  bounded_by_within f q zero c h = truth_within (form_holds f c)
  bounded_by_within f q (suc n) c h = bounded_within f (begins_positive q) (divide_coefficients q (signed_number (begins_positive q) (pos (suc n))))
      (suc n) c (divided_within q (signed_number (begins_positive q) (pos (suc n))) h)

  form_within_test : (f : Form) (p : Polynomial) → list_all test (symbols_of p) ≡ true → literal_within test (literal_form f p) ≡ true
  form_within_test f p h = bounded_by_within f (part_with_atoms p) (common_divisor (part_with_atoms p)) (constant_sum p) (part_within p h)

  done_within : (f : Form) (p : Polynomial) (m : NormalLiteral) → list_all test (symbols_of p) ≡ true → Done (literal_form f p) ≡ Done m
      → literal_within test m ≡ true
  done_within f p m h e = let k : literal_form f p ≡ m = cc e in subst (λ z. literal_within test z ≡ true) k (form_within_test f p h)

  against_within : (r : Rel) (p : Polynomial) (m : NormalLiteral) → list_all test (symbols_of p) ≡ true → against_zero r p ≡ Done m
      → literal_within test m ≡ true
  against_within rel.Eq p m h e = done_within IsZero p m h e
  against_within rel.Ne p m h e = done_within IsNotZero p m h e
  against_within rel.Ge p m h e = done_within AtLeastZero p m h e
  against_within rel.Le p m h e = done_within AtLeastZero (raw_negation p) m (negation_within test p h) e
  against_within rel.Gt p m h e =
      let s = goes_done (normal_difference p one) (λ q. Done (literal_form AtLeastZero q)) m e in
      done_within AtLeastZero s.middle m (subtracted_within test p one s.middle h refl s.first) s.next
  against_within rel.Lt p m h e =
      let s = goes_done (normal_difference (raw_negation p) one) (λ q. Done (literal_form AtLeastZero q)) m e in
      done_within AtLeastZero s.middle m (subtracted_within test (raw_negation p) one s.middle (negation_within test p h) refl s.first) s.next

  pub literal_form_within : (r : Rel) (p q : Polynomial) (m : NormalLiteral) → list_all test (symbols_of p) ≡ true → list_all test (symbols_of q) ≡ true
      → literal r p q ≡ Done m → literal_within test m ≡ true
  literal_form_within r p q m h g e =
      let s = goes_done (normal_difference p q) (against_zero r) m e in
      against_within r s.middle m (subtracted_within test p q s.middle h g s.first) s.next
