-- The direction of a literal has the symbols of the two sides.
use Rattle.std.proofs.Common.{◌≡◌, ℕ, zero, suc, ℤ, pos, neg_ℤ, cond, Bool, true, false, refl, subst}
use Rattle.std.specs.Int.{int_div_euclid, int_rem_euclid}
use Rattle.std.specs.Ordering.{int_eq}
use Rattle.std.specs.List.{list_all}
use Rattle.fs_model.specs.declared.parts.Rel.{Rel}
use Rattle.fs_model.specs.declared.parts.Rel.TheVariants as rel
use Rattle.nf_trees.specs.NormalTerms.{Polynomial, One, Times, Zero, Plus}
use Rattle.nf_terms.specs.Symbols.{symbols_of_monomial, symbols_of}
use Rattle.nf_terms.specs.Normal.{part_with_atoms, constant_sum}
use Rattle.nf_terms.specs.RawSums.{raw_negation}
use Rattle.nf_terms.specs.Computed.{Done}
use Rattle.nf_terms.specs.declared.symbols.Sort.{Sort}
use Rattle.fs_model.specs.declared.sides.Pos.{Pos}
use Rattle.nf_sums.specs.Operations.{normal_difference}
use Rattle.nf_sums.proofs.Values.{goes_done}
use Rattle.nf_symbols.proofs.Passing.{front, back, together}
use Rattle.nf_symbols.proofs.Results.{negation_within, subtracted_within, number_within}
use Rattle.nf_rel.specs.declared.kind.Kind.TheVariants.{Eq, Ne}
use Rattle.nf_rel.specs.Literals.{NormalLiteral, True, False, Is, truth, common_divisor, divide_coefficients, begins_positive, signed_number, Form, AtLeastZero}
use Rattle.nf_rel.specs.Literals.{IsZero, IsNotZero, form_holds, bounded_literal, bounded_by, literal_form, one, against_zero, literal}
use Rattle.sym_facts.specs.Pairings.{literal_within}

module _ (test : Pos × Sort → Bool) where
  abbrev In : Polynomial → Type 0
  In p = list_all test (symbols_of p) ≡ true

  abbrev LiteralIn : NormalLiteral → Type 0
  LiteralIn l = literal_within test l ≡ true

  atoms_in : (p : Polynomial) → In p → In (part_with_atoms p)
  atoms_in Zero h = refl
  atoms_in (Plus One c p) h = atoms_in p h
  atoms_in (Plus (Times a m) c p) h =
      together test (symbols_of_monomial (Times a m)) (symbols_of (part_with_atoms p)) (front test (symbols_of_monomial (Times a m)) (symbols_of p) h)
      (atoms_in p (back test (symbols_of_monomial (Times a m)) (symbols_of p) h))

  divided_in : (p : Polynomial) (d : ℤ) → In p → In (divide_coefficients p d)
  divided_in Zero d h = refl
  divided_in (Plus m c p) d h = together test (symbols_of_monomial m) (symbols_of (divide_coefficients p d))
      (front test (symbols_of_monomial m) (symbols_of p) h) (divided_in p d (back test (symbols_of_monomial m) (symbols_of p) h))

  truth_in : (b : Bool) → LiteralIn (truth b)
  truth_in true = refl
  truth_in false = refl

  either_in : (b : Bool) (l m : NormalLiteral) → LiteralIn l → LiteralIn m → LiteralIn (cond b l m)
  either_in true l m h g = h
  either_in false l m h g = g

  bounded_in : (f : Form) (positive : Bool) (d : Polynomial) (g : ℕ) (c : ℤ) → In d → LiteralIn (bounded_literal f positive d g c)
  bounded_in AtLeastZero true d g c h = h
  bounded_in AtLeastZero false d g c h = h
  bounded_in IsZero positive d g c h = either_in (int_eq (int_rem_euclid c (pos g)) (pos 0))
      (Is d Eq (signed_number positive (neg_ℤ (int_div_euclid c (pos g))))) False h refl
  bounded_in IsNotZero positive d g c h = either_in (int_eq (int_rem_euclid c (pos g)) (pos 0))
      (Is d Ne (signed_number positive (neg_ℤ (int_div_euclid c (pos g))))) True h refl

  bounded_by_in : (f : Form) (q : Polynomial) (g : ℕ) (c : ℤ) → In q → LiteralIn (bounded_by f q g c)
  bounded_by_in f q zero c h = truth_in (form_holds f c)
  bounded_by_in f q (suc n) c h = bounded_in f (begins_positive q) (divide_coefficients q (signed_number (begins_positive q) (pos (suc n))))
      (suc n) c (divided_in q (signed_number (begins_positive q) (pos (suc n))) h)

  form_in : (f : Form) (p : Polynomial) (n : NormalLiteral) → In p → Done (literal_form f p) ≡ Done n → LiteralIn n
  form_in f p n h e =
      let k : literal_form f p ≡ n = cc e in
      subst LiteralIn k (bounded_by_in f (part_with_atoms p) (common_divisor (part_with_atoms p)) (constant_sum p) (atoms_in p h))

  against_in : (relation : Rel) (p : Polynomial) (n : NormalLiteral) → In p → against_zero relation p ≡ Done n → LiteralIn n
  against_in rel.Eq p n h e = form_in IsZero p n h e
  against_in rel.Ne p n h e = form_in IsNotZero p n h e
  against_in rel.Ge p n h e = form_in AtLeastZero p n h e
  against_in rel.Gt p n h e =
      let s = goes_done (normal_difference p one) (λ q. Done (literal_form AtLeastZero q)) n e in
      form_in AtLeastZero s.middle n (subtracted_within test p one s.middle h (number_within test (pos 1)) s.first) s.next
  against_in rel.Le p n h e = form_in AtLeastZero (raw_negation p) n (negation_within test p h) e
  against_in rel.Lt p n h e =
      let s = goes_done (normal_difference (raw_negation p) one) (λ q. Done (literal_form AtLeastZero q)) n e in
      form_in AtLeastZero s.middle n
      (subtracted_within test (raw_negation p) one s.middle (negation_within test p h) (number_within test (pos 1)) s.first) s.next

  pub literal_in : (relation : Rel) (l r : Polynomial) (n : NormalLiteral) → In l → In r → literal relation l r ≡ Done n → LiteralIn n
  literal_in relation l r n h g e =
      let s = goes_done (normal_difference l r) (against_zero relation) n e in
      against_in relation s.middle n (subtracted_within test l r s.middle h g s.first) s.next
