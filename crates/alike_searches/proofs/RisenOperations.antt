-- What the operations give rises.
use Rattle.std.proofs.Common.{◌≡◌, ◌+◌, ℤ, Bool, true, false, ◌&&◌, cond, refl, subst}
use Rattle.std.proofs.lemmas.Bool.{and_from}
use Rattle.fs_model.proofs.Booleans.{and_first, and_second, by_test}
use Rattle.fs_model.specs.Division.{quotient, remainder}
use Rattle.nf_trees.specs.NormalTerms.{Atom, Polynomial, ArrayTerm, Writes, Read, Quotient, Remainder, Zero, Over, NoWrites, Write, polynomial_of_number}
use Rattle.nf_trees.specs.Order.{same_polynomial}
use Rattle.nf_trees.specs.Measures.{size_of, depth_of, size_of_array, depth_of_array}
use Rattle.nf_terms.specs.Normal.{is_constant, constant_sum, is_written, last_index}
use Rattle.nf_terms.specs.RawSums.{raw_sum, raw_difference, raw_product}
use Rattle.nf_terms.specs.Tidied.{last_writes, goes_after, with_write, rising_stretches, tidy_array}
use Rattle.nf_terms.specs.Computed.{Computed, Done}
use Rattle.nf_trees.specs.declared.tree.Base.{Base}
use Rattle.nf_trees.specs.declared.tree.Base.TheVariants as base
use Rattle.nf_sums.specs.Operations.{normal_sum, normal_difference, normal_product, number}
use Rattle.nf_sums.proofs.Values.{small_is}
use Rattle.nf_arrays.specs.NewAtoms.{polynomial_of_atom, new_atom, quotient_of, remainder_of}
use Rattle.nf_arrays.specs.Writes.{written_last, with_last_write, write_array, are_apart, stop_at, prefix_for, last_value, read_here, read_at}
use Rattle.alike_searches.specs.Risen.{is_risen, values_rise, is_risen_array}
use Rattle.alike_searches.proofs.RisenForms.{form_risen, number_risen}
use Rattle.alike_searches.proofs.Computing.{sum_is, difference_is, product_is, number_is}

-- ---- sums

module _ (p q r : Polynomial) where
  pub sum_rises : normal_sum p q ≡ Done r → is_risen r ≡ true
  sum_rises e = subst (λ z. is_risen z ≡ true) (sum_is p q r e) (form_risen (raw_sum p q))

  pub difference_rises : normal_difference p q ≡ Done r → is_risen r ≡ true
  difference_rises e = subst (λ z. is_risen z ≡ true) (difference_is p q r e) (form_risen (raw_difference p q))

  pub product_rises : normal_product p q ≡ Done r → is_risen r ≡ true
  product_rises e = subst (λ z. is_risen z ≡ true) (product_is p q r e) (form_risen (raw_product p q))

pub number_rises : (c : ℤ) (r : Polynomial) → number c ≡ Done r → is_risen r ≡ true
number_rises c r e = subst (λ z. is_risen z ≡ true) (number_is c r e) (number_risen c)

-- ---- atoms

atom_rises_alone : (a : Atom) (r : Polynomial) → new_atom a ≡ Done r → is_risen r ≡ true
atom_rises_alone a r e =
    let k : polynomial_of_atom a ≡ r = small_is (size_of (polynomial_of_atom a)) (depth_of (polynomial_of_atom a)) (polynomial_of_atom a) r e in
    subst (λ z. is_risen z ≡ true) k refl

number_or_atom : (t : Bool) (c : ℤ) (a : Atom) (r : Polynomial) → cond {A = Computed Polynomial} t (Done (polynomial_of_number c)) (new_atom a) ≡ Done r
    → is_risen r ≡ true
number_or_atom true c a r e =
    let k : polynomial_of_number c ≡ r = cc e in
    subst (λ z. is_risen z ≡ true) k (number_risen c)
number_or_atom false c a r e = atom_rises_alone a r e

pub quotient_rises : (p q r : Polynomial) → quotient_of p q ≡ Done r → is_risen r ≡ true
quotient_rises p q r e = number_or_atom (is_constant p && is_constant q) (quotient (constant_sum p) (constant_sum q)) (Quotient p q) r e

pub remainder_rises : (p q r : Polynomial) → remainder_of p q ≡ Done r → is_risen r ≡ true
remainder_rises p q r e = number_or_atom (is_constant p && is_constant q) (remainder (constant_sum p) (constant_sum q)) (Remainder p q) r e

-- ---- reads

prefix_rises : (i : Polynomial) (ws : Writes) → values_rise ws ≡ true → values_rise (prefix_for i ws) ≡ true
prefix_rises i NoWrites h = refl
prefix_rises i (Write j v ws) h = by_rest (prefix_for i ws) (prefix_rises i ws (and_second (is_risen v) (values_rise ws) h))
  where
    here : is_risen v ≡ true
    here = and_first (is_risen v) (values_rise ws) h

    by_rest : (ps : Writes) → values_rise ps ≡ true → values_rise (stop_at i j v ps) ≡ true
    by_rest NoWrites g = by_test (λ t. values_rise t ≡ true) NoWrites (Write j v NoWrites) (are_apart j i) (λ e. refl)
        (λ e. and_from (is_risen v) true here refl)
    by_rest (Write k w ps) g = and_from (is_risen v) (values_rise (Write k w ps)) here g

last_rises : (v : Polynomial) (ws : Writes) → is_risen v ≡ true → values_rise ws ≡ true → is_risen (last_value v ws) ≡ true
last_rises v NoWrites h g = h
last_rises v (Write j w ws) h g = last_rises w ws (and_first (is_risen w) (values_rise ws) g) (and_second (is_risen w) (values_rise ws) g)

read_of_writes : (b : Base) (j v : Polynomial) (ws : Writes) (i r : Polynomial) → values_rise (Write j v ws) ≡ true → (t : Bool)
    → cond {A = Computed Polynomial} t (Done (last_value v ws)) (new_atom (Read (Over b (Write j v ws)) i)) ≡ Done r → is_risen r ≡ true
read_of_writes b j v ws i r h true e =
    let k : last_value v ws ≡ r = cc e in
    subst (λ z. is_risen z ≡ true) k (last_rises v ws (and_first (is_risen v) (values_rise ws) h) (and_second (is_risen v) (values_rise ws) h))
read_of_writes b j v ws i r h false e = atom_rises_alone (Read (Over b (Write j v ws)) i) r e

read_of_prefix : (b : Base) (ps : Writes) (i r : Polynomial) → values_rise ps ≡ true → read_here (Over b ps) i ≡ Done r → is_risen r ≡ true
read_of_prefix base.Zero NoWrites i r h e =
    let k : Zero ≡ r = cc e in
    subst (λ z. is_risen z ≡ true) k refl
read_of_prefix (base.Sym p) NoWrites i r h e = atom_rises_alone (Read (Over (base.Sym p) NoWrites) i) r e
read_of_prefix base.Zero (Write j v ws) i r h e = read_of_writes base.Zero j v ws i r h (same_polynomial (last_index j ws) i) e
read_of_prefix (base.Sym p) (Write j v ws) i r h e = read_of_writes (base.Sym p) j v ws i r h (same_polynomial (last_index j ws) i) e

pub read_rises : (a : ArrayTerm) (i r : Polynomial) → is_risen_array a ≡ true → read_at a i ≡ Done r → is_risen r ≡ true
read_rises (Over b ws) i r h e = read_of_prefix b (prefix_for i ws) i r (prefix_rises i ws h) e

-- ---- writes

one_more_rises : (ws : Writes) (i v : Polynomial) → values_rise ws ≡ true → is_risen v ≡ true → values_rise (written_last ws i v) ≡ true
one_more_rises NoWrites i v h g = and_from (is_risen v) true g refl
one_more_rises (Write j w ws) i v h g = and_from (is_risen w) (values_rise (written_last ws i v)) (and_first (is_risen w) (values_rise ws) h)
    (one_more_rises ws i v (and_second (is_risen w) (values_rise ws) h) g)

last_writes_rise : (ws : Writes) → values_rise ws ≡ true → values_rise (last_writes ws) ≡ true
last_writes_rise NoWrites h = refl
last_writes_rise (Write i v ws) h =
    let rest = last_writes_rise ws (and_second (is_risen v) (values_rise ws) h) in
    by_test (λ t. values_rise t ≡ true) (last_writes ws) (Write i v (last_writes ws)) (is_written i ws) (λ e. rest)
    (λ e. and_from (is_risen v) (values_rise (last_writes ws)) (and_first (is_risen v) (values_rise ws) h) rest)

placed_rises : (i v : Polynomial) (ws : Writes) → is_risen v ≡ true → values_rise ws ≡ true → values_rise (with_write i v ws) ≡ true
placed_rises i v NoWrites h g = and_from (is_risen v) true h refl
placed_rises i v (Write j w ws) h g =
    by_test (λ t. values_rise t ≡ true) (Write j w (with_write i v ws)) (Write i v (Write j w ws)) (goes_after i j)
    (λ e. and_from (is_risen w) (values_rise (with_write i v ws)) (and_first (is_risen w) (values_rise ws) g)
    (placed_rises i v ws h (and_second (is_risen w) (values_rise ws) g)))
    (λ e. and_from (is_risen v) (values_rise (Write j w ws)) h g)

stretches_rise : (ws : Writes) → values_rise ws ≡ true → values_rise (rising_stretches ws) ≡ true
stretches_rise NoWrites h = refl
stretches_rise (Write i v ws) h = placed_rises i v (rising_stretches ws) (and_first (is_risen v) (values_rise ws) h)
    (stretches_rise ws (and_second (is_risen v) (values_rise ws) h))

tidied_rises : (a : ArrayTerm) (i v : Polynomial) → is_risen_array a ≡ true → is_risen v ≡ true → is_risen_array (tidy_array (with_last_write a i v)) ≡ true
tidied_rises (Over b ws) i v h g = stretches_rise (last_writes (written_last ws i v)) (last_writes_rise (written_last ws i v) (one_more_rises ws i v h g))

pub write_rises : (a b : ArrayTerm) (i v : Polynomial) → is_risen_array a ≡ true → is_risen v ≡ true → write_array a i v ≡ Done b → is_risen_array b ≡ true
write_rises a b i v h g e =
    let k : tidy_array (with_last_write a i v) ≡ b = small_is (size_of_array a + 1 + size_of i + size_of v)
    (depth_of_array (tidy_array (with_last_write a i v)))
    (tidy_array (with_last_write a i v)) b e in
    subst (λ z. is_risen_array z ≡ true) k (tidied_rises a i v h g)
