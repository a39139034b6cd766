-- Reads, writes, quotients and remainders have the right values, of all terms, in order or not.
use Rattle.std.proofs.Common.{◌≡◌, ◌+◌, ℤ, Bool, true, false, ◌&&◌, ◌||◌, not, cond, int_lt, arith, refl, ap, ap₂, sym, ◌∙◌}
use Rattle.std.proofs.lemmas.Int.{ints}
use Rattle.std.specs.Ordering.{int_eq}
use Rattle.std.specs.Cmp.{signed_Decides}
use Rattle.base_laws.proofs.Booleans.{and_first, and_second, by_test}
use Rattle.base_laws.proofs.Integers.{int_eq-true}
use Rattle.base_laws.specs.Division.{quotient, remainder}
use Rattle.nf_trees.specs.NormalTerms.{Atom, Polynomial, ArrayTerm, Writes, Read, Quotient, Remainder, One, Times, Zero, Plus, Over, NoWrites, Write}
use Rattle.nf_trees.specs.NormalTerms.{polynomial_of_number}
use Rattle.nf_trees.specs.Order.{same_polynomial}
use Rattle.nf_trees.specs.Measures.{size_of, size_of_array, depth_of, depth_of_array}
use Rattle.nf_terms.specs.TermMeaning.{Valuation, contents_after_write as stored, contents_of_base, value_of, value_of_atom, contents_after, contents}
use Rattle.nf_terms.specs.Normal.{is_written, is_constant, differ_by_constant, last_index}
use Rattle.nf_trees.specs.declared.tree.Base.{Base}
use Rattle.nf_trees.specs.declared.tree.Base.TheVariants as starts
use Rattle.nf_terms.specs.Computed.{Computed, Done}
use Rattle.nf_terms.specs.Normal.{constant_sum}
use Rattle.nf_terms.specs.Tidied.{last_writes, goes_after, with_write, rising_stretches, tidy_array}
use Rattle.nf_sums.proofs.Partings.{value_of_number}
use Rattle.nf_sums.proofs.Constants.{equal_of_same, parts_equal}
use Rattle.nf_sums.proofs.Values.{value_parts, small_is}
use Rattle.nf_arrays.specs.NewAtoms.{polynomial_of_atom, new_atom, quotient_of, remainder_of}
use Rattle.nf_arrays.specs.Writes.{written_last, with_last_write, write_array, are_apart, stop_at, prefix_for, last_value, read_here, read_at}

-- ---- McCarthy's laws

same_int : (a b : ℤ) → a ≡ b → int_eq a b ≡ true
same_int a b e = (signed_Decides a b).1 e

other_int : (a b : ℤ) → ¬ (a ≡ b) → int_eq a b ≡ false
other_int a b n = by_value (int_eq a b) refl
  where
    by_value : (t : Bool) → int_eq a b ≡ t → t ≡ false
    by_value true e = absurd (n (int_eq-true a b e))
    by_value false e = refl

-- what was written is read
pub read_written : (f : ℤ → ℤ) (a x : ℤ) → stored f a x a ≡ x
read_written f a x = ap (λ t. cond t x (f a)) (same_int a a refl)

-- another index keeps its element
pub read_other : (f : ℤ → ℤ) (a b x : ℤ) → ¬ (a ≡ b) → stored f a x b ≡ f b
read_other f a b x n = ap (λ t. cond t x (f b)) (other_int a b n)

-- a write hides an earlier one at the same index
hidden : (f : ℤ → ℤ) (a x y : ℤ) → stored (stored f a x) a y ≡ stored f a y
hidden f a x y = λ k j. by_value j (int_eq a j) k
  where
    by_value : (j : ℤ) (t : Bool) → cond t y (cond t x (f j)) ≡ cond t y (f j)
    by_value j true = refl
    by_value j false = refl

-- writes at different indices change places
swapped : (f : ℤ → ℤ) (a b x y : ℤ) → int_eq a b ≡ false → stored (stored f a x) b y ≡ stored (stored f b y) a x
swapped f a b x y n = λ k j. by_values j (int_eq a j) (int_eq b j) refl refl k
  where
    by_values : (j : ℤ) (s t : Bool) → int_eq a j ≡ s → int_eq b j ≡ t → cond t y (cond s x (f j)) ≡ cond s x (cond t y (f j))
    by_values j true true p q =
        absurd (let e : int_eq a b ≡ true = same_int a b (int_eq-true a j p ∙ sym (int_eq-true b j q)) in let g : true ≡ false = sym e ∙ n in cc)
    by_values j true false p q = refl
    by_values j false true p q = refl
    by_values j false false p q = refl

module _ (w : Valuation) where
  -- ---- indices that are apart

  differ : (i j : Polynomial) → differ_by_constant i j ≡ true → ¬ (constant_sum i ≡ constant_sum j) → int_eq (value_of w i) (value_of w j) ≡ false
  differ i j d n =
      other_int (value_of w i) (value_of w j) (λ e. n (omega (arith, ints, e, value_parts w i, value_parts w j, ap (value_of w) (parts_equal i j d))))

  apart_values : (j i : Polynomial) → are_apart j i ≡ true → int_eq (value_of w j) (value_of w i) ≡ false
  apart_values j i a = differ j i (and_first (differ_by_constant j i) (not (int_eq (constant_sum j) (constant_sum i))) a)
      (λ e. (let n = and_second (differ_by_constant j i) (not (int_eq (constant_sum j) (constant_sum i))) a in
      let m : int_eq (constant_sum j) (constant_sum i) ≡ true = same_int (constant_sum j) (constant_sum i) e in
      let c : false ≡ true = ap not (sym m) ∙ n in cc c))

  after_values : (i j : Polynomial) → goes_after i j ≡ true → int_eq (value_of w j) (value_of w i) ≡ false
  after_values i j a = by_value (int_eq (value_of w j) (value_of w i)) refl
    where
      d : differ_by_constant i j ≡ true
      d = and_first (differ_by_constant i j) (int_lt (constant_sum j) (constant_sum i)) a

      irreflexive : (x y : ℤ) → x ≡ y → int_lt x y ≡ true → ⊥
      irreflexive x y e l = grind (arith, ints)

      sums : value_of w j ≡ value_of w i → constant_sum j ≡ constant_sum i
      sums e = omega (arith, ints, e, value_parts w i, value_parts w j, ap (value_of w) (parts_equal i j d))

      by_value : (t : Bool) → int_eq (value_of w j) (value_of w i) ≡ t → t ≡ false
      by_value true e =
          absurd
          (irreflexive (constant_sum j) (constant_sum i) (sums (int_eq-true (value_of w j) (value_of w i) e))
          (and_second (differ_by_constant i j) (int_lt (constant_sum j) (constant_sum i)) a))
      by_value false e = refl

  -- ---- reads

  prefix_read : (i : Polynomial) (ws : Writes) (f : ℤ → ℤ) → contents_after w (prefix_for i ws) f (value_of w i) ≡ contents_after w ws f (value_of w i)
  prefix_read i NoWrites f = refl
  prefix_read i (Write j v ws) f = by_rest (prefix_for i ws) (prefix_read i ws (stored f (value_of w j) (value_of w v)))
    where
      by_rest : (ps : Writes) → contents_after w ps (stored f (value_of w j) (value_of w v)) (value_of w i)
          ≡ contents_after w ws (stored f (value_of w j) (value_of w v)) (value_of w i)
          → contents_after w (stop_at i j v ps) f (value_of w i) ≡ contents_after w (Write j v ws) f (value_of w i)
      by_rest NoWrites e =
          by_test (λ t. contents_after w t f (value_of w i) ≡ contents_after w ws (stored f (value_of w j) (value_of w v)) (value_of w i)) NoWrites
          (Write j v NoWrites) (are_apart j i)
          (λ a. sym (ap (λ t. cond t (value_of w v) (f (value_of w i))) (apart_values j i a)) ∙ e) (λ a. e)
      by_rest (Write k x ps) e = e

  last_held : (j v : Polynomial) (ws : Writes) (f : ℤ → ℤ)
      → contents_after w ws (stored f (value_of w j) (value_of w v)) (value_of w (last_index j ws)) ≡ value_of w (last_value v ws)
  last_held j v NoWrites f = read_written f (value_of w j) (value_of w v)
  last_held j v (Write k x ws) f = last_held k x ws (stored f (value_of w j) (value_of w v))

  pub new_atom_value : (a : Atom) (r : Polynomial) → new_atom a ≡ Done r → value_of w r ≡ value_of_atom w a
  new_atom_value a r e =
      let alone : value_of w (polynomial_of_atom a) ≡ value_of_atom w a = omega (arith, ints) in
      sym (ap (value_of w) (small_is (size_of (polynomial_of_atom a)) (depth_of (polynomial_of_atom a)) (polynomial_of_atom a) r e)) ∙ alone

  here_value : (b : Base) (ps : Writes) (i r : Polynomial) → read_here (Over b ps) i ≡ Done r → value_of w r ≡ contents w (Over b ps) (value_of w i)
  here_value starts.Zero NoWrites i r e = let k : Zero ≡ r = cc e in sym (ap (value_of w) k)
  here_value (starts.Sym p) NoWrites i r e = new_atom_value (Read (Over (starts.Sym p) NoWrites) i) r e
  here_value b (Write j v ws) i r e = by_base b e
    where
      by_value : (b : Base) (t : Bool) → same_polynomial (last_index j ws) i ≡ t
          → cond {A = Computed Polynomial} t (Done (last_value v ws)) (new_atom (Read (Over b (Write j v ws)) i)) ≡ Done r
          → value_of w r ≡ contents w (Over b (Write j v ws)) (value_of w i)
      by_value b true s g =
          let k : last_value v ws ≡ r = cc g in
          sym (ap (value_of w) k) ∙ sym (last_held j v ws (contents_of_base w b))
          ∙ ap (λ t. contents_after w ws (stored (contents_of_base w b) (value_of w j) (value_of w v)) (value_of w t)) (equal_of_same (last_index j ws) i s)
      by_value b false s g = new_atom_value (Read (Over b (Write j v ws)) i) r g

      by_base : (b : Base) → read_here (Over b (Write j v ws)) i ≡ Done r → value_of w r ≡ contents w (Over b (Write j v ws)) (value_of w i)
      by_base starts.Zero g = by_value starts.Zero (same_polynomial (last_index j ws) i) refl g
      by_base (starts.Sym p) g = by_value (starts.Sym p) (same_polynomial (last_index j ws) i) refl g

  -- a read is what the array holds at the index
  pub read_value : (a : ArrayTerm) (i r : Polynomial) → read_at a i ≡ Done r → value_of w r ≡ contents w a (value_of w i)
  read_value (Over b ws) i r e = here_value b (prefix_for i ws) i r e ∙ prefix_read i ws (contents_of_base w b)

  -- ---- writes

  after_last : (ws : Writes) (i v : Polynomial) (f : ℤ → ℤ)
      → contents_after w (written_last ws i v) f ≡ stored (contents_after w ws f) (value_of w i) (value_of w v)
  after_last NoWrites i v f = refl
  after_last (Write j x ws) i v f = after_last ws i v (stored f (value_of w j) (value_of w x))

  -- a write whose index is written again
  overwritten : (i : Polynomial) (x : ℤ) (ws : Writes) (f : ℤ → ℤ) → is_written i ws ≡ true
      → contents_after w ws (stored f (value_of w i) x) ≡ contents_after w ws f
  overwritten i x NoWrites f h = cc
  overwritten i x (Write j v ws) f h = by_index (λ e. overwritten i x ws (stored f (value_of w j) (value_of w v)) e) (int_eq (value_of w i) (value_of w j)) refl
    where
      again : int_eq (value_of w i) (value_of w j) ≡ false → is_written i ws ≡ true
      again n = by_value (same_polynomial i j) refl
        where
          by_value : (t : Bool) → same_polynomial i j ≡ t → is_written i ws ≡ true
          by_value true s =
              absurd (let e : int_eq (value_of w i) (value_of w j) ≡ true = same_int (value_of w i) (value_of w j) (ap (value_of w) (equal_of_same i j s)) in
              let u : true ≡ false = sym e ∙ n in cc)
          by_value false s = (λ k. sym s k || is_written i ws) ∙ h

      by_index :
          (is_written i ws ≡ true → contents_after w ws (stored (stored f (value_of w j) (value_of w v)) (value_of w i) x)
          ≡ contents_after w ws (stored f (value_of w j) (value_of w v))) → (t : Bool) → int_eq (value_of w i) (value_of w j) ≡ t
          → contents_after w ws (stored (stored f (value_of w i) x) (value_of w j) (value_of w v))
          ≡ contents_after w ws (stored f (value_of w j) (value_of w v))
      by_index rest true e = ap (contents_after w ws)
          (ap (λ a. stored (stored f a x) (value_of w j) (value_of w v)) (int_eq-true (value_of w i) (value_of w j) e)
          ∙ hidden f (value_of w j) x (value_of w v))
      by_index rest false e = ap (contents_after w ws) (swapped f (value_of w i) (value_of w j) x (value_of w v) e) ∙ rest (again e)

  last_kept : (ws : Writes) (f : ℤ → ℤ) → contents_after w (last_writes ws) f ≡ contents_after w ws f
  last_kept NoWrites f = refl
  last_kept (Write i v ws) f =
      by_test (λ t. contents_after w t f ≡ contents_after w ws (stored f (value_of w i) (value_of w v))) (last_writes ws) (Write i v (last_writes ws))
      (is_written i ws)
      (λ e. last_kept ws f ∙ sym (overwritten i (value_of w v) ws f e)) (λ e. last_kept ws (stored f (value_of w i) (value_of w v)))

  placed_kept : (i v : Polynomial) (ws : Writes) (f : ℤ → ℤ)
      → contents_after w (with_write i v ws) f ≡ contents_after w ws (stored f (value_of w i) (value_of w v))
  placed_kept i v NoWrites f = refl
  placed_kept i v (Write j x ws) f =
      by_test (λ t. contents_after w t f ≡ contents_after w (Write j x ws) (stored f (value_of w i) (value_of w v))) (Write j x (with_write i v ws))
      (Write i v (Write j x ws)) (goes_after i j)
      (λ e. placed_kept i v ws (stored f (value_of w j) (value_of w x))
      ∙ ap (contents_after w ws) (swapped f (value_of w j) (value_of w i) (value_of w x) (value_of w v) (after_values i j e)))
      (λ e. refl)

  rising_kept : (ws : Writes) (f : ℤ → ℤ) → contents_after w (rising_stretches ws) f ≡ contents_after w ws f
  rising_kept NoWrites f = refl
  rising_kept (Write i v ws) f = placed_kept i v (rising_stretches ws) f ∙ rising_kept ws (stored f (value_of w i) (value_of w v))

  -- a tidied array holds what the array holds
  pub tidied_kept : (a : ArrayTerm) → contents w (tidy_array a) ≡ contents w a
  tidied_kept (Over b ws) = rising_kept (last_writes ws) (contents_of_base w b) ∙ last_kept ws (contents_of_base w b)

  last_write_kept : (a : ArrayTerm) (i v : Polynomial) → contents w (with_last_write a i v) ≡ stored (contents w a) (value_of w i) (value_of w v)
  last_write_kept (Over b ws) i v = after_last ws i v (contents_of_base w b)

  -- a write is the array with the value at the index
  pub write_value : (a b : ArrayTerm) (i v : Polynomial) → write_array a i v ≡ Done b → contents w b ≡ stored (contents w a) (value_of w i) (value_of w v)
  write_value a b i v e =
      sym
      (ap (contents w)
      (small_is (size_of_array a + 1 + size_of i + size_of v) (depth_of_array (tidy_array (with_last_write a i v))) (tidy_array (with_last_write a i v)) b e))
      ∙ tidied_kept (with_last_write a i v) ∙ last_write_kept a i v

  -- ---- quotients and remainders

  constant_value : (p : Polynomial) → is_constant p ≡ true → value_of w p ≡ constant_sum p
  constant_value Zero h = refl
  constant_value (Plus One c p) h = omega (arith, ints, constant_value p h)
  constant_value (Plus (Times a m) c p) h = absurd (cc h)

  module _ (p q r : Polynomial) where
    pub quotient_value : quotient_of p q ≡ Done r → value_of w r ≡ quotient (value_of w p) (value_of w q)
    quotient_value e = by_value (is_constant p && is_constant q) refl e
      where
        by_value : (t : Bool) → is_constant p && is_constant q ≡ t
            → cond {A = Computed Polynomial} t (Done (polynomial_of_number (quotient (constant_sum p) (constant_sum q)))) (new_atom (Quotient p q)) ≡ Done r
            → value_of w r ≡ quotient (value_of w p) (value_of w q)
        by_value true h g =
            let k : polynomial_of_number (quotient (constant_sum p) (constant_sum q)) ≡ r = cc g in
            sym (ap (value_of w) k) ∙ value_of_number w (quotient (constant_sum p) (constant_sum q))
            ∙ ap₂ quotient (sym (constant_value p (and_first (is_constant p) (is_constant q) h)))
            (sym (constant_value q (and_second (is_constant p) (is_constant q) h)))
        by_value false h g = new_atom_value (Quotient p q) r g

    pub remainder_value : remainder_of p q ≡ Done r → value_of w r ≡ remainder (value_of w p) (value_of w q)
    remainder_value e = by_value (is_constant p && is_constant q) refl e
      where
        by_value : (t : Bool) → is_constant p && is_constant q ≡ t
            → cond {A = Computed Polynomial} t (Done (polynomial_of_number (remainder (constant_sum p) (constant_sum q)))) (new_atom (Remainder p q)) ≡ Done r
            → value_of w r ≡ remainder (value_of w p) (value_of w q)
        by_value true h g =
            let k : polynomial_of_number (remainder (constant_sum p) (constant_sum q)) ≡ r = cc g in
            sym (ap (value_of w) k) ∙ value_of_number w (remainder (constant_sum p) (constant_sum q))
            ∙ ap₂ remainder (sym (constant_value p (and_first (is_constant p) (is_constant q) h)))
            (sym (constant_value q (and_second (is_constant p) (is_constant q) h)))
        by_value false h g = new_atom_value (Remainder p q) r g
