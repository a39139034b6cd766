-- A substitution leaves a normal polynomial over symbols that the vector has for themselves, where no monomial has too many.
use Rattle.std.proofs.Common.{◌≡◌, ◌≤◌, ℕ, ◌+◌, ◌*◌, ℤ, pos, ◌*ℤ◌, unsigned_abs, nat_le, Bool, true, false, ◌&&◌, cond, Option, Some, None, List}
use Rattle.std.proofs.Common.{arith, refl, ap, sym, ◌∙◌}
use Rattle.std.proofs.lemmas.Int.{ints}
use Rattle.std.proofs.lemmas.Bool.{le-leb, leb-true, and_from}
use Rattle.std.proofs.lemmas.List.Folds.{list_all-append}
use Rattle.std.specs.List.{list_all}
use Rattle.std.specs.Ordering.{int_eq}
use Rattle.std.specs.Prelude.{is_some}
use Rattle.nf_terms.proofs.Booleans.{and_first, and_second}
use Rattle.nf_sums.proofs.Identities.{product_with_one, sum_with_zero}
use Rattle.nf_sums.proofs.Partings.{ordered_term, term_ordered}
use Rattle.nf_terms.proofs.Simple.{light}
use Rattle.nf_trees.specs.NormalTerms.{Atom, Monomial, Polynomial, Symbol, Read, Quotient, Remainder, One, Times, Zero, Plus, polynomial_of_symbol}
use Rattle.nf_trees.specs.NormalTerms.{polynomial_of_number}
use Rattle.nf_trees.specs.Measures.{size_of, size_of_monomial, depth_of, depth_of_monomial, weight_of}
use Rattle.nf_trees.specs.Order.{degree}
use Rattle.nf_terms.specs.TermLimits.{weight_limit, size_limit, depth_limit}
use Rattle.nf_terms.specs.Normal.{IsNormal, ordered, ordered_atom, ordered_monomial, atom_rises, monomial_rises}
use Rattle.nf_terms.specs.RawSums.{raw_sum, monomial_product}
use Rattle.nf_terms.specs.Computed.{Computed, Done, Wide, after, if_small}
use Rattle.fs_model.specs.declared.sides.Pos.{Pos}
use Rattle.nf_terms.specs.declared.form.Nf.{Nf}
use Rattle.nf_terms.specs.declared.form.Nf.TheVariants.{Num, Arr, Seq}
use Rattle.nf_terms.specs.declared.symbols.Sort.TheVariants.{Scalar}
use Rattle.nf_terms.specs.Symbols.{symbols_of_monomial, symbols_of}
use Rattle.nf_sums.specs.RawSumForms.{normal_form}
use Rattle.nf_sums.specs.Operations.{operation, normal_sum, normal_product, number}
use Rattle.nf_sums.proofs.Bags.{size-joined}
use Rattle.nf_sums.proofs.Exact.{small_done}
use Rattle.nf_sums.proofs.Settling.{form_stays}
use Rattle.nf_sums.proofs.Sorting.{joined_deep}
use Rattle.nf_sums.proofs.Terms.{size-sum, weight-sum}
use Rattle.nf_vectors.specs.SamePlaces.{pos_equal}
use Rattle.nf_vectors.specs.Vectors.{form_at, number_or, number_at}
use Rattle.nf_vectors.specs.BareNumbers.{bare_number}
use Rattle.nf_substitution.specs.StayingTerms.{most_atoms, is_symbol, number_symbol, symbol_stays, atoms_stay, monomial_stays, terms_stay, has_symbol}
use Rattle.nf_substitution.specs.Substitution.{atoms_substituted, terms_substituted, polynomial_substituted}
use Rattle.nf_vectors.proofs.LoneSymbols.{bare_number_is}

-- ---- an operation gives a raw sum that is in order

operation_stays : (p q raw : Polynomial) (weight units : ℕ) → ordered raw ≡ true → depth_of raw ≤ depth_limit → weight ≤ weight_limit → units ≤ size_limit
    → operation p q weight units raw ≡ Done raw
operation_stays p q raw weight units o d w u =
    ap (λ b. cond {A = Computed Polynomial} b (if_small units (depth_of (normal_form raw)) (normal_form raw)) (Wide (weight_of p) (weight_of q)))
    (le-leb weight weight_limit w) ∙ (λ k. if_small units (depth_of (form_stays raw o k)) (form_stays raw o k)) ∙ small_done units (depth_of raw) raw u d

-- ---- the front of what is in order

rises_to_front : (a : Atom) (k n : Monomial) → atom_rises a (monomial_product k n) ≡ true → atom_rises a k ≡ true
rises_to_front a One n r = refl
rises_to_front a (Times b k) n r = r

front_of_monomial : (k n : Monomial) → ordered_monomial (monomial_product k n) ≡ true → ordered_monomial k ≡ true
front_of_monomial One n o = refl
front_of_monomial (Times a k) n o =
    let h : ordered_atom a && atom_rises a (monomial_product k n) ≡ true =
    and_first (ordered_atom a && atom_rises a (monomial_product k n)) (ordered_monomial (monomial_product k n)) o in
    and_from (ordered_atom a && atom_rises a k) (ordered_monomial k)
    (and_from (ordered_atom a) (atom_rises a k) (and_first (ordered_atom a) (atom_rises a (monomial_product k n)) h)
    (rises_to_front a k n (and_second (ordered_atom a) (atom_rises a (monomial_product k n)) h)))
    (front_of_monomial k n (and_second (ordered_atom a && atom_rises a (monomial_product k n)) (ordered_monomial (monomial_product k n)) o))

front_is_shallow : (k n : Monomial) → depth_of_monomial k ≤ depth_of_monomial (monomial_product k n)
front_is_shallow One n = omega arith
front_is_shallow (Times a k) n = omega (arith, front_is_shallow k n)

rises_to_first : (m : Monomial) (s p : Polynomial) → monomial_rises m (raw_sum s p) ≡ true → monomial_rises m s ≡ true
rises_to_first m Zero p r = refl
rises_to_first m (Plus n d s) p r = r

front_of_sum : (s p : Polynomial) → ordered (raw_sum s p) ≡ true → ordered s ≡ true
front_of_sum Zero p o = refl
front_of_sum (Plus m c s) p o =
    let t = ordered_term m c (raw_sum s p) o in
    term_ordered m c s (record { nonzero = t.nonzero; first = t.first; rises = rises_to_first m s p t.rises; rest = front_of_sum s p t.rest })

back_of_sum : (s p : Polynomial) → ordered (raw_sum s p) ≡ true → ordered p ≡ true
back_of_sum Zero p o = o
back_of_sum (Plus m c s) p o = back_of_sum s p (ordered_term m c (raw_sum s p) o).rest

sum_is_shallow : (s p : Polynomial) → depth_of s ≤ depth_of (raw_sum s p)
sum_is_shallow Zero p = omega arith
sum_is_shallow (Plus m c s) p = omega (arith, sum_is_shallow s p)

back_is_shallow : (s p : Polynomial) → depth_of p ≤ depth_of (raw_sum s p)
back_is_shallow Zero p = omega arith
back_is_shallow (Plus m c s) p = omega (arith, back_is_shallow s p)

sum_deep : (s t p : Polynomial) → raw_sum (raw_sum s t) p ≡ raw_sum s (raw_sum t p)
sum_deep Zero t p = refl
sum_deep (Plus m c s) t p = ap (Plus m c) (sum_deep s t p)

times_one : (c : ℤ) → c *ℤ pos 1 ≡ c
times_one c = omega (arith, ints)

-- a monomial alone is in order
alone : (m : Monomial) (c : ℤ) → int_eq c (pos 0) ≡ false → ordered_monomial m ≡ true → ordered (Plus m c Zero) ≡ true
alone m c z o = term_ordered m c Zero (record { nonzero = z; first = o; rises = refl; rest = refl })

number_done : (c : ℤ) → int_eq c (pos 0) ≡ false → unsigned_abs c ≤ weight_limit → number c ≡ Done (Plus One c Zero)
number_done c z w =
    ap (λ b. cond {A = Computed Polynomial} b (Done (polynomial_of_number c)) (Wide (unsigned_abs c) 0)) (le-leb (unsigned_abs c) weight_limit w)
    ∙ ap (λ b. Done (cond b Zero (Plus One c Zero))) z

-- ---- one atom, a monomial, a sum

-- a monomial times a symbol behind its atoms
monomial_times_symbol : (k : Monomial) (c : ℤ) (p : Pos) → int_eq c (pos 0) ≡ false → unsigned_abs c ≤ weight_limit
    → ordered_monomial (monomial_product k (Times (Symbol p) One)) ≡ true → depth_of_monomial (monomial_product k (Times (Symbol p) One)) ≤ depth_limit
    → size_of_monomial (monomial_product k (Times (Symbol p) One)) ≤ most_atoms
    → normal_product (Plus k c Zero) (polynomial_of_symbol p) ≡ Done (Plus (monomial_product k (Times (Symbol p) One)) c Zero)
monomial_times_symbol k c p z w o d s =
    let n = monomial_product k (Times (Symbol p) One) in
    (λ i. operation (Plus k c Zero) (polynomial_of_symbol p) (weight_of (Plus k c Zero) * weight_of (polynomial_of_symbol p))
    (size_of (Plus k c Zero) * size_of (polynomial_of_symbol p)) (Plus n (times_one c i) Zero))
    ∙ operation_stays (Plus k c Zero) (polynomial_of_symbol p) (Plus n c Zero) (weight_of (Plus k c Zero) * weight_of (polynomial_of_symbol p))
    (size_of (Plus k c Zero) * size_of (polynomial_of_symbol p)) (alone n c z o) (omega (arith, d)) (omega (arith, w))
    (omega (arith, s, size-joined k (Times (Symbol p) One)))

module _ (v : List (Pos × Nf)) where
  number_stays : (p : Pos) → symbol_stays v p ≡ true → number_at v p ≡ polynomial_of_symbol p
  number_stays p e = by_form (form_at Scalar p v) e
    where
      by_form : (f : Option Nf) → is_symbol p (number_symbol f) ≡ true → number_or (polynomial_of_symbol p) f ≡ polynomial_of_symbol p
      by_form None h = refl
      by_form (Some (Num q)) h = by_symbol (bare_number q) refl h
        where
          by_symbol : (o : Option Pos) → bare_number q ≡ o → is_symbol p o ≡ true → q ≡ polynomial_of_symbol p
          by_symbol None g i = absurd (cc i)
          by_symbol (Some x) g i = bare_number_is q x g ∙ ap polynomial_of_symbol (sym (pos_equal p x i))
      by_form (Some (Arr a)) h = refl
      by_form (Some (Seq l)) h = refl

  -- atoms that stay are as many as their size
  own_size : (m : Monomial) → atoms_stay v m ≡ true → size_of_monomial m ≡ degree m
  own_size One e = refl
  own_size (Times (Symbol p) m) e = omega (arith, own_size m (and_second (symbol_stays v p) (atoms_stay v m) e))
  own_size (Times (Read a i) m) e = absurd (cc e)
  own_size (Times (Quotient p q) m) e = absurd (cc e)
  own_size (Times (Remainder p q) m) e = absurd (cc e)

  module _ (whole : Monomial) (c : ℤ) (z : int_eq c (pos 0) ≡ false) (w : unsigned_abs c ≤ weight_limit) (o : ordered_monomial whole ≡ true)
      (d : depth_of_monomial whole ≤ depth_limit) (s : size_of_monomial whole ≤ most_atoms) where
    product_stays : (k m : Monomial) → monomial_product k m ≡ whole → atoms_stay v m ≡ true
        → atoms_substituted v m (Plus k c Zero) ≡ Done (Plus whole c Zero)
    product_stays k One e h = ap (λ n. Done (Plus n c Zero)) (sym (product_with_one k) ∙ e)
    product_stays k (Times (Symbol p) m) e h =
        let n = monomial_product k (Times (Symbol p) One) in
        let f : monomial_product n m ≡ whole = joined_deep k (Times (Symbol p) One) m ∙ e in
        let in_order : ordered_monomial n ≡ true = front_of_monomial n m (ap ordered_monomial f ∙ o) in
        let i : depth_of_monomial n ≤ depth_limit = omega (arith, front_is_shallow n m, ap depth_of_monomial f, d) in
        let j : size_of_monomial n ≤ most_atoms = omega (arith, size-joined n m, ap size_of_monomial f, s) in
        ap (λ g. after (normal_product (Plus k c Zero) g) (λ q. atoms_substituted v m q))
        (number_stays p (and_first (symbol_stays v p) (atoms_stay v m) h))
        ∙ ap (λ r. after r (λ q. atoms_substituted v m q)) (monomial_times_symbol k c p z w in_order i j)
        ∙ product_stays n m f (and_second (symbol_stays v p) (atoms_stay v m) h)
    product_stays k (Times (Read a i) m) e h = absurd (cc h)
    product_stays k (Times (Quotient p q) m) e h = absurd (cc h)
    product_stays k (Times (Remainder p q) m) e h = absurd (cc h)

  -- a monomial that stays, from its coefficient on
  term_stays : (m : Monomial) (c : ℤ) → int_eq c (pos 0) ≡ false → unsigned_abs c ≤ weight_limit → ordered_monomial m ≡ true
      → depth_of_monomial m ≤ depth_limit → monomial_stays v m ≡ true → after (number c) (λ n. atoms_substituted v m n) ≡ Done (Plus m c Zero)
  term_stays m c z w o d h =
      let atoms = and_second (nat_le (degree m) most_atoms) (atoms_stay v m) h in
      let few : degree m ≤ most_atoms = leb-true (degree m) most_atoms (and_first (nat_le (degree m) most_atoms) (atoms_stay v m) h) in
      let s : size_of_monomial m ≤ most_atoms = omega (arith, few, own_size m atoms) in
      ap (λ r. after r (λ n. atoms_substituted v m n)) (number_done c z w) ∙ product_stays m c z w o d s One m refl atoms

  module _ (whole : Polynomial) (n : IsNormal whole) where
    sum_stays : (s p : Polynomial) → raw_sum s p ≡ whole → terms_stay v p ≡ true → terms_substituted v p s ≡ Done whole
    sum_stays s Zero e h = ap Done (sym (sum_with_zero s) ∙ e)
    sum_stays s (Plus m c p) e h =
        let one = Plus m c Zero in
        let t = ordered_term m c p (back_of_sum s (Plus m c p) (ap ordered e ∙ n.ordered)) in
        let f : raw_sum (raw_sum s one) p ≡ whole = sum_deep s one p ∙ e in
        let in_order : ordered (raw_sum s one) ≡ true = front_of_sum (raw_sum s one) p (ap ordered f ∙ n.ordered) in
        let shallow : depth_of (raw_sum s one) ≤ depth_limit =
        omega (arith, sum_is_shallow (raw_sum s one) p, ap depth_of f, n.shallow) in
        let low : depth_of_monomial m ≤ depth_limit = omega (arith, back_is_shallow s (Plus m c p), ap depth_of e, n.shallow) in
        let weight : weight_of s + weight_of (Plus m c p) ≤ weight_limit = omega (arith, weight-sum s (Plus m c p), ap weight_of e, light whole n) in
        let size : size_of s + size_of (Plus m c p) ≤ size_limit = omega (arith, size-sum s (Plus m c p), ap size_of e, n.small) in
        ap (λ r. after r (λ q. after (normal_sum s q) (λ x. terms_substituted v p x)))
        (term_stays m c t.nonzero (omega (arith, weight)) t.first low (and_first (monomial_stays v m) (terms_stay v p) h))
        ∙ ap (λ r. after r (λ x. terms_substituted v p x))
        (operation_stays s one (raw_sum s one) (weight_of s + weight_of one) (size_of s + size_of one) in_order shallow (omega (arith, weight))
        (omega (arith, size)))
        ∙ sum_stays (raw_sum s one) p f (and_second (monomial_stays v m) (terms_stay v p) h)

  -- what the look at a polynomial tells
  pub polynomial_stays : (p : Polynomial) (b : Bool) → IsNormal p → b ≡ terms_stay v p → b ≡ true → polynomial_substituted v p ≡ Done p
  polynomial_stays p b n h e = sum_stays p n Zero p refl (sym h ∙ e)

  -- ---- the symbols of what stays have forms

  symbol_there : (p : Pos) → symbol_stays v p ≡ true → has_symbol v (p, Scalar) ≡ true
  symbol_there p e = by_form (form_at Scalar p v) e
    where
      by_form : (f : Option Nf) → is_symbol p (number_symbol f) ≡ true → is_some f ≡ true
      by_form None h = h
      by_form (Some f) h = refl

  monomial_there : (m : Monomial) → atoms_stay v m ≡ true → list_all (has_symbol v) (symbols_of_monomial m) ≡ true
  monomial_there One e = refl
  monomial_there (Times (Symbol p) m) e =
      and_from (has_symbol v (p, Scalar)) (list_all (has_symbol v) (symbols_of_monomial m))
      (symbol_there p (and_first (symbol_stays v p) (atoms_stay v m) e)) (monomial_there m (and_second (symbol_stays v p) (atoms_stay v m) e))
  monomial_there (Times (Read a i) m) e = absurd (cc e)
  monomial_there (Times (Quotient p q) m) e = absurd (cc e)
  monomial_there (Times (Remainder p q) m) e = absurd (cc e)

  terms_there : (p : Polynomial) → terms_stay v p ≡ true → list_all (has_symbol v) (symbols_of p) ≡ true
  terms_there Zero e = refl
  terms_there (Plus m c p) e =
      list_all-append (has_symbol v) (symbols_of_monomial m) (symbols_of p)
      ∙ and_from (list_all (has_symbol v) (symbols_of_monomial m)) (list_all (has_symbol v) (symbols_of p))
      (monomial_there m (and_second (nat_le (degree m) most_atoms) (atoms_stay v m) (and_first (monomial_stays v m) (terms_stay v p) e)))
      (terms_there p (and_second (monomial_stays v m) (terms_stay v p) e))

  pub symbols_there : (p : Polynomial) (b : Bool) → b ≡ terms_stay v p → b ≡ true → list_all (has_symbol v) (symbols_of p) ≡ true
  symbols_there p b h e = terms_there p (sym h ∙ e)

pub ruleset staying = (polynomial_stays, symbols_there)
