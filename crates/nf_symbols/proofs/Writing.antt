-- Reads, writes, quotients, remainders and pushes have the symbols of their operands.
use Rattle.std.proofs.Common.{◌≡◌, ◌+◌, cond, Bool, true, false, ◌&&◌, refl, ap, sym, ◌∙◌, List, [], ◌∷◌, ◌++◌}
use Rattle.std.specs.List.{list_all}
use Rattle.fs_model.specs.Division.{quotient, remainder}
use Rattle.nf_trees.specs.NormalTerms.{Atom, Polynomial, ArrayTerm, Writes, Read, Quotient, Remainder, One, Times, Zero, Over, NoWrites, Write}
use Rattle.nf_trees.specs.NormalTerms.{polynomial_of_number}
use Rattle.nf_terms.specs.Lists.{ListTerm, size_of_list, depth_of_list}
use Rattle.nf_trees.specs.Order.{same_polynomial}
use Rattle.nf_trees.specs.Measures.{size_of, size_of_array, depth_of, depth_of_array}
use Rattle.nf_terms.specs.Normal.{is_constant, constant_sum, is_written, last_index}
use Rattle.nf_terms.specs.Tidied.{last_writes, goes_after, with_write, rising_stretches, tidy_array}
use Rattle.nf_terms.specs.Symbols.{symbols_of_base, symbols_of_atom, symbols_of_monomial, symbols_of, symbols_of_writes, symbols_of_array, symbols_of_list_base}
use Rattle.nf_terms.specs.Symbols.{symbols_of_items, symbols_of_list}
use Rattle.nf_terms.specs.Computed.{Computed, Done}
use Rattle.nf_terms.specs.declared.symbols.Sort.{Sort}
use Rattle.fs_model.specs.declared.sides.Pos.{Pos}
use Rattle.nf_trees.specs.declared.tree.Base.{Base}
use Rattle.nf_trees.specs.declared.tree.Base.TheVariants as base
use Rattle.nf_sums.proofs.Values.{small_is}
use Rattle.nf_substitution.specs.NewAtoms.{polynomial_of_atom, new_atom, quotient_of, remainder_of}
use Rattle.nf_substitution.specs.Writes.{written_last, with_last_write, write_array, are_apart, stop_at, prefix_for, last_value, read_here, read_at}
use Rattle.nf_substitution.specs.Pushes.{with_last_item, list_with_item}
use Rattle.nf_symbols.proofs.Passing.{front, back, together}
use Rattle.nf_symbols.proofs.Results.{number_within}

module _ (test : Pos × Sort → Bool) where
  new_atom_within : (t : Atom) (r : Polynomial) → list_all test (symbols_of_atom t) ≡ true → new_atom t ≡ Done r → list_all test (symbols_of r) ≡ true
  new_atom_within t r h e =
      sym (ap (λ z. list_all test (symbols_of z)) (small_is (size_of (polynomial_of_atom t)) (depth_of (polynomial_of_atom t)) (polynomial_of_atom t) r e))
      ∙ together test (symbols_of_monomial (Times t One)) (symbols_of Zero) (together test (symbols_of_atom t) (symbols_of_monomial One) h refl) refl

  write_within : (i v : Polynomial) (ws : Writes) → list_all test (symbols_of i) ≡ true → list_all test (symbols_of v) ≡ true
      → list_all test (symbols_of_writes ws) ≡ true → list_all test (symbols_of_writes (Write i v ws)) ≡ true
  write_within i v ws h g k = together test (symbols_of i) (symbols_of v ++ symbols_of_writes ws) h (together test (symbols_of v) (symbols_of_writes ws) g k)

  index_within : (i v : Polynomial) (ws : Writes) → list_all test (symbols_of_writes (Write i v ws)) ≡ true → list_all test (symbols_of i) ≡ true
  index_within i v ws h = front test (symbols_of i) (symbols_of v ++ symbols_of_writes ws) h

  value_within : (i v : Polynomial) (ws : Writes) → list_all test (symbols_of_writes (Write i v ws)) ≡ true → list_all test (symbols_of v) ≡ true
  value_within i v ws h = front test (symbols_of v) (symbols_of_writes ws) (back test (symbols_of i) (symbols_of v ++ symbols_of_writes ws) h)

  rest_within : (i v : Polynomial) (ws : Writes) → list_all test (symbols_of_writes (Write i v ws)) ≡ true → list_all test (symbols_of_writes ws) ≡ true
  rest_within i v ws h = back test (symbols_of v) (symbols_of_writes ws) (back test (symbols_of i) (symbols_of v ++ symbols_of_writes ws) h)

  -- ---- reads
  stop_within : (i j v : Polynomial) (ws : Writes) → list_all test (symbols_of j) ≡ true → list_all test (symbols_of v) ≡ true
      → list_all test (symbols_of_writes ws) ≡ true → list_all test (symbols_of_writes (stop_at i j v ws)) ≡ true
  stop_within i j v NoWrites h g k = by_test (are_apart j i)
    where
      by_test : (b : Bool) → list_all test (symbols_of_writes (cond b NoWrites (Write j v NoWrites))) ≡ true
      by_test true = refl
      by_test false = write_within j v NoWrites h g refl
  stop_within i j v (Write l x ws) h g k = write_within j v (Write l x ws) h g k

  prefix_within : (i : Polynomial) (ws : Writes) → list_all test (symbols_of_writes ws) ≡ true → list_all test (symbols_of_writes (prefix_for i ws)) ≡ true
  prefix_within i NoWrites h = refl
  prefix_within i (Write j v ws) h = stop_within i j v (prefix_for i ws) (index_within j v ws h) (value_within j v ws h)
      (prefix_within i ws (rest_within j v ws h))

  last_within : (v : Polynomial) (ws : Writes) → list_all test (symbols_of v) ≡ true → list_all test (symbols_of_writes ws) ≡ true
      → list_all test (symbols_of (last_value v ws)) ≡ true
  last_within v NoWrites h g = h
  last_within v (Write j x ws) h g = last_within x ws (value_within j x ws g) (rest_within j x ws g)

  here_within : (b : Base) (ws : Writes) (i r : Polynomial) → list_all test (symbols_of_base b) ≡ true → list_all test (symbols_of_writes ws) ≡ true
      → list_all test (symbols_of i) ≡ true → read_here (Over b ws) i ≡ Done r → list_all test (symbols_of r) ≡ true
  here_within base.Zero NoWrites i r h g k e = let s : Zero ≡ r = cc e in sym (ap (λ z. list_all test (symbols_of z)) s)
  here_within (base.Sym p) NoWrites i r h g k e =
      new_atom_within (Read (Over (base.Sym p) NoWrites) i) r
      (together test (symbols_of_array (Over (base.Sym p) NoWrites)) (symbols_of i)
      (together test (symbols_of_base (base.Sym p)) (symbols_of_writes NoWrites) h refl) k) e
  here_within b (Write j v ws) i r h g k e = by_test (same_polynomial (last_index j ws) i) e
    where
      by_test : (c : Bool) → cond {A = Computed Polynomial} c (Done (last_value v ws)) (new_atom (Read (Over b (Write j v ws)) i)) ≡ Done r
          → list_all test (symbols_of r) ≡ true
      by_test true l = let s : last_value v ws ≡ r = cc l in sym (ap (λ z. list_all test (symbols_of z)) s)
          ∙ last_within v ws (value_within j v ws g) (rest_within j v ws g)
      by_test false l =
          new_atom_within (Read (Over b (Write j v ws)) i) r
          (together test (symbols_of_array (Over b (Write j v ws))) (symbols_of i) (together test (symbols_of_base b) (symbols_of_writes (Write j v ws)) h g) k)
          l

  pub read_within : (a : ArrayTerm) (i r : Polynomial) → list_all test (symbols_of_array a) ≡ true → list_all test (symbols_of i) ≡ true → read_at a i ≡ Done r
      → list_all test (symbols_of r) ≡ true
  read_within (Over b ws) i r h g e =
      here_within b (prefix_for i ws) i r (front test (symbols_of_base b) (symbols_of_writes ws) h)
      (prefix_within i ws (back test (symbols_of_base b) (symbols_of_writes ws) h)) g e

  -- ---- writes
  with_write_within : (i v : Polynomial) (ws : Writes) → list_all test (symbols_of i) ≡ true → list_all test (symbols_of v) ≡ true
      → list_all test (symbols_of_writes ws) ≡ true → list_all test (symbols_of_writes (with_write i v ws)) ≡ true
  with_write_within i v NoWrites h g k = write_within i v NoWrites h g refl
  with_write_within i v (Write j x ws) h g k = by_test (goes_after i j) (with_write_within i v ws h g (rest_within j x ws k))
    where
      by_test : (b : Bool) → list_all test (symbols_of_writes (with_write i v ws)) ≡ true
          → list_all test (symbols_of_writes (cond b (Write j x (with_write i v ws)) (Write i v (Write j x ws)))) ≡ true
      by_test true l = write_within j x (with_write i v ws) (index_within j x ws k) (value_within j x ws k) l
      by_test false l = write_within i v (Write j x ws) h g k

  rising_within : (ws : Writes) → list_all test (symbols_of_writes ws) ≡ true → list_all test (symbols_of_writes (rising_stretches ws)) ≡ true
  rising_within NoWrites h = refl
  rising_within (Write i v ws) h = with_write_within i v (rising_stretches ws) (index_within i v ws h) (value_within i v ws h)
      (rising_within ws (rest_within i v ws h))

  counting_within : (ws : Writes) → list_all test (symbols_of_writes ws) ≡ true → list_all test (symbols_of_writes (last_writes ws)) ≡ true
  counting_within NoWrites h = refl
  counting_within (Write i v ws) h = by_test (is_written i ws) (counting_within ws (rest_within i v ws h))
    where
      by_test : (b : Bool) → list_all test (symbols_of_writes (last_writes ws)) ≡ true
          → list_all test (symbols_of_writes (cond b (last_writes ws) (Write i v (last_writes ws)))) ≡ true
      by_test true l = l
      by_test false l = write_within i v (last_writes ws) (index_within i v ws h) (value_within i v ws h) l

  behind_within : (ws : Writes) (i v : Polynomial) → list_all test (symbols_of_writes ws) ≡ true → list_all test (symbols_of i) ≡ true
      → list_all test (symbols_of v) ≡ true → list_all test (symbols_of_writes (written_last ws i v)) ≡ true
  behind_within NoWrites i v h g k = write_within i v NoWrites g k refl
  behind_within (Write j x ws) i v h g k = write_within j x (written_last ws i v) (index_within j x ws h) (value_within j x ws h)
      (behind_within ws i v (rest_within j x ws h) g k)

  tidied_within : (a : ArrayTerm) (i v : Polynomial) → list_all test (symbols_of_array a) ≡ true → list_all test (symbols_of i) ≡ true
      → list_all test (symbols_of v) ≡ true → list_all test (symbols_of_array (tidy_array (with_last_write a i v))) ≡ true
  tidied_within (Over b ws) i v h g k =
      together test (symbols_of_base b) (symbols_of_writes (rising_stretches (last_writes (written_last ws i v))))
      (front test (symbols_of_base b) (symbols_of_writes ws) h)
      (rising_within (last_writes (written_last ws i v))
      (counting_within (written_last ws i v) (behind_within ws i v (back test (symbols_of_base b) (symbols_of_writes ws) h) g k)))

  pub written_within : (a b : ArrayTerm) (i v : Polynomial) → list_all test (symbols_of_array a) ≡ true → list_all test (symbols_of i) ≡ true
      → list_all test (symbols_of v) ≡ true → write_array a i v ≡ Done b → list_all test (symbols_of_array b) ≡ true
  written_within a b i v h g k e =
      sym
      (ap (λ z. list_all test (symbols_of_array z))
      (small_is (size_of_array a + 1 + size_of i + size_of v) (depth_of_array (tidy_array (with_last_write a i v))) (tidy_array (with_last_write a i v)) b e))
      ∙ tidied_within a i v h g k

  -- ---- quotients and remainders
  pub quotient_within : (p q r : Polynomial) → list_all test (symbols_of p) ≡ true → list_all test (symbols_of q) ≡ true → quotient_of p q ≡ Done r
      → list_all test (symbols_of r) ≡ true
  quotient_within p q r h g e = by_test (is_constant p && is_constant q) e
    where
      by_test : (b : Bool) → cond {A = Computed Polynomial} b (Done (polynomial_of_number (quotient (constant_sum p) (constant_sum q))))
          (new_atom (Quotient p q)) ≡ Done r → list_all test (symbols_of r) ≡ true
      by_test true k = (let s : polynomial_of_number (quotient (constant_sum p) (constant_sum q)) ≡ r = cc k in sym (ap (λ z. list_all test (symbols_of z)) s))
          ∙ number_within test (quotient (constant_sum p) (constant_sum q))
      by_test false k = new_atom_within (Quotient p q) r (together test (symbols_of p) (symbols_of q) h g) k

  pub remainder_within : (p q r : Polynomial) → list_all test (symbols_of p) ≡ true → list_all test (symbols_of q) ≡ true → remainder_of p q ≡ Done r
      → list_all test (symbols_of r) ≡ true
  remainder_within p q r h g e = by_test (is_constant p && is_constant q) e
    where
      by_test : (b : Bool) → cond {A = Computed Polynomial} b (Done (polynomial_of_number (remainder (constant_sum p) (constant_sum q))))
          (new_atom (Remainder p q)) ≡ Done r → list_all test (symbols_of r) ≡ true
      by_test true k = (let s : polynomial_of_number (remainder (constant_sum p) (constant_sum q)) ≡ r = cc k in sym (ap (λ z. list_all test (symbols_of z)) s))
          ∙ number_within test (remainder (constant_sum p) (constant_sum q))
      by_test false k = new_atom_within (Remainder p q) r (together test (symbols_of p) (symbols_of q) h g) k

  -- ---- pushes
  items_within : (ps : List Polynomial) (p : Polynomial) → list_all test (symbols_of_items ps) ≡ true → list_all test (symbols_of p) ≡ true
      → list_all test (symbols_of_items (ps ++ p ∷ [])) ≡ true
  items_within [] p h g = together test (symbols_of p) [] g refl
  items_within (q ∷ ps) p h g =
      together test (symbols_of q) (symbols_of_items (ps ++ p ∷ [])) (front test (symbols_of q) (symbols_of_items ps) h)
      (items_within ps p (back test (symbols_of q) (symbols_of_items ps) h) g)

  pub pushed_within : (l m : ListTerm) (p : Polynomial) → list_all test (symbols_of_list l) ≡ true → list_all test (symbols_of p) ≡ true
      → list_with_item l p ≡ Done m
      → list_all test (symbols_of_list m) ≡ true
  pushed_within l m p h g e =
      sym
      (ap (λ z. list_all test (symbols_of_list z)) (small_is (size_of_list l + 1 + size_of p) (depth_of_list (with_last_item l p)) (with_last_item l p) m e))
      ∙ together test (symbols_of_list_base l.base) (symbols_of_items (l.items ++ p ∷ []))
      (front test (symbols_of_list_base l.base) (symbols_of_items l.items) h)
      (items_within l.items p (back test (symbols_of_list_base l.base) (symbols_of_items l.items) h) g)
