-- Sums and products have the symbols of their operands.
use Rattle.std.proofs.Common.{◌≡◌, ℕ, ◌+◌, ◌*◌, ℤ, pos, ◌+ℤ◌, cond, Bool, true, false, refl, ap, sym, ◌∙◌}
use Rattle.std.specs.List.{list_all}
use Rattle.std.specs.declared.cmp.Ordering.{Ordering}
use Rattle.std.specs.declared.cmp.Ordering.TheVariants.{Less, Equal, Greater}
use Rattle.std.specs.Ordering.{int_eq, is_le}
use Rattle.nf_trees.specs.NormalTerms.{Atom, Monomial, Polynomial, One, Times, Zero, Plus, polynomial_of_number}
use Rattle.nf_trees.specs.Order.{cmp_atom, cmp_monomial}
use Rattle.nf_trees.specs.Measures.{size_of, weight_of, depth_of}
use Rattle.nf_terms.specs.RawSums.{raw_sum, raw_negation, raw_difference, monomial_product, raw_multiple, raw_product}
use Rattle.nf_terms.specs.Symbols.{symbols_of_atom, symbols_of_monomial, symbols_of}
use Rattle.nf_terms.specs.Computed.{Computed, Done, Wide, if_small}
use Rattle.nf_terms.specs.TermLimits.{weight_limit}
use Rattle.std.specs.Prelude.{nat_le, unsigned_abs}
use Rattle.nf_terms.specs.declared.symbols.Sort.{Sort}
use Rattle.fs_model.specs.declared.sides.Pos.{Pos}
use Rattle.nf_sums.specs.RawSumForms.{with_atom, sorted_monomial, by_order, plus, with_term, normal_form}
use Rattle.nf_sums.specs.Operations.{operation, normal_sum, normal_difference, normal_product, number}
use Rattle.nf_sums.proofs.Values.{small_is}
use Rattle.nf_symbols.proofs.Passing.{front, back, together}

module _ (test : Pos × Sort → Bool) where
  plus_within : (m : Monomial) (c : ℤ) (p : Polynomial) → list_all test (symbols_of_monomial m) ≡ true → list_all test (symbols_of p) ≡ true
      → list_all test (symbols_of (plus m c p)) ≡ true
  plus_within m c p h g = by_test (int_eq c (pos 0))
    where
      by_test : (b : Bool) → list_all test (symbols_of (cond b p (Plus m c p))) ≡ true
      by_test true = g
      by_test false = together test (symbols_of_monomial m) (symbols_of p) h g

  with_term_within : (m : Monomial) (c : ℤ) (p : Polynomial) → list_all test (symbols_of_monomial m) ≡ true → list_all test (symbols_of p) ≡ true
      → list_all test (symbols_of (with_term m c p)) ≡ true
  with_term_within m c Zero h g = plus_within m c Zero h g
  with_term_within m c (Plus n d q) h g =
      let i = front test (symbols_of_monomial n) (symbols_of q) g in
      let j = back test (symbols_of_monomial n) (symbols_of q) g in
      by_cases (cmp_monomial m n) i j (with_term_within m c q h j)
    where
      by_cases : (o : Ordering) → list_all test (symbols_of_monomial n) ≡ true → list_all test (symbols_of q) ≡ true
          → list_all test (symbols_of (with_term m c q)) ≡ true
          → list_all test (symbols_of (by_order o (plus m c (Plus n d q)) (plus n (c +ℤ d) q) (Plus n d (with_term m c q)))) ≡ true
      by_cases Less i j k = plus_within m c (Plus n d q) h g
      by_cases Equal i j k = plus_within n (c +ℤ d) q i j
      by_cases Greater i j k = together test (symbols_of_monomial n) (symbols_of (with_term m c q)) i k

  with_atom_within : (t : Atom) (m : Monomial) → list_all test (symbols_of_atom t) ≡ true → list_all test (symbols_of_monomial m) ≡ true
      → list_all test (symbols_of_monomial (with_atom t m)) ≡ true
  with_atom_within t One h g = together test (symbols_of_atom t) (symbols_of_monomial One) h refl
  with_atom_within t (Times b m) h g =
      by_test (is_le (cmp_atom t b)) (with_atom_within t m h (back test (symbols_of_atom b) (symbols_of_monomial m) g))
    where
      by_test : (c : Bool) → list_all test (symbols_of_monomial (with_atom t m)) ≡ true
          → list_all test (symbols_of_monomial (cond c (Times t (Times b m)) (Times b (with_atom t m)))) ≡ true
      by_test true i = together test (symbols_of_atom t) (symbols_of_monomial (Times b m)) h g
      by_test false i = together test (symbols_of_atom b) (symbols_of_monomial (with_atom t m)) (front test (symbols_of_atom b) (symbols_of_monomial m) g) i

  sorted_within : (m : Monomial) → list_all test (symbols_of_monomial m) ≡ true → list_all test (symbols_of_monomial (sorted_monomial m)) ≡ true
  sorted_within One h = refl
  sorted_within (Times t m) h = with_atom_within t (sorted_monomial m) (front test (symbols_of_atom t) (symbols_of_monomial m) h)
      (sorted_within m (back test (symbols_of_atom t) (symbols_of_monomial m) h))

  normal_within : (p : Polynomial) → list_all test (symbols_of p) ≡ true → list_all test (symbols_of (normal_form p)) ≡ true
  normal_within Zero h = refl
  normal_within (Plus m c p) h = with_term_within (sorted_monomial m) c (normal_form p) (sorted_within m (front test (symbols_of_monomial m) (symbols_of p) h))
      (normal_within p (back test (symbols_of_monomial m) (symbols_of p) h))

  -- ---- raw sums and products
  raw_sum_within : (p q : Polynomial) → list_all test (symbols_of p) ≡ true → list_all test (symbols_of q) ≡ true
      → list_all test (symbols_of (raw_sum p q)) ≡ true
  raw_sum_within Zero q h g = g
  raw_sum_within (Plus m c p) q h g =
      together test (symbols_of_monomial m) (symbols_of (raw_sum p q)) (front test (symbols_of_monomial m) (symbols_of p) h)
      (raw_sum_within p q (back test (symbols_of_monomial m) (symbols_of p) h) g)

  pub negation_within : (p : Polynomial) → list_all test (symbols_of p) ≡ true → list_all test (symbols_of (raw_negation p)) ≡ true
  negation_within Zero h = refl
  negation_within (Plus m c p) h =
      together test (symbols_of_monomial m) (symbols_of (raw_negation p)) (front test (symbols_of_monomial m) (symbols_of p) h)
      (negation_within p (back test (symbols_of_monomial m) (symbols_of p) h))

  joined_within : (m n : Monomial) → list_all test (symbols_of_monomial m) ≡ true → list_all test (symbols_of_monomial n) ≡ true
      → list_all test (symbols_of_monomial (monomial_product m n)) ≡ true
  joined_within One n h g = g
  joined_within (Times t m) n h g =
      together test (symbols_of_atom t) (symbols_of_monomial (monomial_product m n)) (front test (symbols_of_atom t) (symbols_of_monomial m) h)
      (joined_within m n (back test (symbols_of_atom t) (symbols_of_monomial m) h) g)

  multiple_within : (m : Monomial) (c : ℤ) (q : Polynomial) → list_all test (symbols_of_monomial m) ≡ true → list_all test (symbols_of q) ≡ true
      → list_all test (symbols_of (raw_multiple m c q)) ≡ true
  multiple_within m c Zero h g = refl
  multiple_within m c (Plus n d q) h g =
      together test (symbols_of_monomial (monomial_product m n)) (symbols_of (raw_multiple m c q))
      (joined_within m n h (front test (symbols_of_monomial n) (symbols_of q) g)) (multiple_within m c q h (back test (symbols_of_monomial n) (symbols_of q) g))

  product_within : (p q : Polynomial) → list_all test (symbols_of p) ≡ true → list_all test (symbols_of q) ≡ true
      → list_all test (symbols_of (raw_product p q)) ≡ true
  product_within Zero q h g = refl
  product_within (Plus m c p) q h g =
      raw_sum_within (raw_multiple m c q) (raw_product p q) (multiple_within m c q (front test (symbols_of_monomial m) (symbols_of p) h) g)
      (product_within p q (back test (symbols_of_monomial m) (symbols_of p) h) g)

  -- ---- operations
  operation_within : (p q : Polynomial) (weight units : ℕ) (raw r : Polynomial) → list_all test (symbols_of raw) ≡ true
      → operation p q weight units raw ≡ Done r → list_all test (symbols_of r) ≡ true
  operation_within p q weight units raw r h e = by_test (nat_le weight weight_limit) e
    where
      by_test : (b : Bool) → cond {A = Computed Polynomial} b (if_small units (depth_of (normal_form raw)) (normal_form raw)) (Wide (weight_of p) (weight_of q))
          ≡ Done r → list_all test (symbols_of r) ≡ true
      by_test true g = sym (ap (λ z. list_all test (symbols_of z)) (small_is units (depth_of (normal_form raw)) (normal_form raw) r g)) ∙ normal_within raw h
      by_test false g = absurd (cc g)

  pub added_within : (p q r : Polynomial) → list_all test (symbols_of p) ≡ true → list_all test (symbols_of q) ≡ true → normal_sum p q ≡ Done r
      → list_all test (symbols_of r) ≡ true
  added_within p q r h g e = operation_within p q (weight_of p + weight_of q) (size_of p + size_of q) (raw_sum p q) r (raw_sum_within p q h g) e

  pub subtracted_within : (p q r : Polynomial) → list_all test (symbols_of p) ≡ true → list_all test (symbols_of q) ≡ true → normal_difference p q ≡ Done r
      → list_all test (symbols_of r) ≡ true
  subtracted_within p q r h g e = operation_within p q (weight_of p + weight_of q) (size_of p + size_of q)
      (raw_difference p q) r (raw_sum_within p (raw_negation q) h (negation_within q g)) e

  pub multiplied_within : (p q r : Polynomial) → list_all test (symbols_of p) ≡ true → list_all test (symbols_of q) ≡ true → normal_product p q ≡ Done r
      → list_all test (symbols_of r) ≡ true
  multiplied_within p q r h g e = operation_within p q (weight_of p * weight_of q) (size_of p * size_of q) (raw_product p q) r (product_within p q h g) e

  pub number_within : (c : ℤ) → list_all test (symbols_of (polynomial_of_number c)) ≡ true
  number_within c = by_test (int_eq c (pos 0))
    where
      by_test : (b : Bool) → list_all test (symbols_of (cond b Zero (Plus One c Zero))) ≡ true
      by_test true = refl
      by_test false = refl

  pub number_done_within : (c : ℤ) (r : Polynomial) → number c ≡ Done r → list_all test (symbols_of r) ≡ true
  number_done_within c r e = by_test (nat_le (unsigned_abs c) weight_limit) e
    where
      by_test : (t : Bool) → cond {A = Computed Polynomial} t (Done (polynomial_of_number c)) (Wide (unsigned_abs c) 0) ≡ Done r
          → list_all test (symbols_of r) ≡ true
      by_test true g = let k : polynomial_of_number c ≡ r = cc g in sym (ap (λ z. list_all test (symbols_of z)) k) ∙ number_within c
      by_test false g = absurd (cc g)
