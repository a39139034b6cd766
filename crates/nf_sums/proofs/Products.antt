-- Products of ordered lists of terms: of halves, and of single terms.
use Rattle.std.proofs.Common.{◌≡◌, ℕ, zero, suc, ◌+◌, ◌*◌, ◌<◌, ◌≤◌, ℤ, pos, ◌+ℤ◌, ◌*ℤ◌, Bool, true, false, ◌&&◌, not, unsigned_abs, Result, Ok, Err, IfOk, Vec}
use Rattle.std.proofs.Common.{Global, List, [], ◌∷◌, ◌++◌, map, length, get_or, arith, refl, ap, sym, subst, ◌∙◌}
use Rattle.std.proofs.Math.Nat.{add-mul, mul-add}
use Rattle.std.proofs.lemmas.Int.{ints, unsigned_abs-mul}
use Rattle.std.proofs.lemmas.List.{map-append}
use Rattle.std.specs.Ordering.{int_eq}
use Rattle.std.specs.Cmp.{signed_Decides}
use Rattle.std.proofs.lemmas.Bool.{and_from}
use Rattle.nf_terms.proofs.Booleans.{and_first, and_second}
use Rattle.nf_trees.specs.NormalTerms.{Monomial, Polynomial, Zero, Plus, polynomial_of}
use Rattle.nf_trees.specs.View.{term_in, monomial_in}
use Rattle.nf_trees.specs.Measures.{size_of, size_of_monomial, weight_of}
use Rattle.nf_terms.specs.TermLimits.{weight_limit}
use Rattle.nf_terms.specs.Normal.{ordered, ordered_monomial}
use Rattle.nf_terms.specs.RawSums.{raw_sum, raw_product, monomial_product}
use Rattle.nf_trees.specs.declared.tree.MonoTree.{MonoTree}
use Rattle.nf_trees.specs.declared.stop.NoMemory.{NoMemory}
use Rattle.nf_sums.specs.OrderedSums.{worth_of, polynomial_fits, fits_monomial, IsOrderedJoin, IsOrderedSum, IsOrderedProduct}
use Rattle.nf_sums.proofs.Sorted.{front_of, back_of}
use Rattle.nf_sums.proofs.Worth.{worth-product_left, worth-product_right}
use Rattle.nf_sums.proofs.Bags.{size_worth, size_ignores, size-joined, fits_worth, fits_ignores, fits_again, fits-joined}
use Rattle.nf_sums.proofs.Terms.{terms_in, Rises, rises_of, ordered_of, good_term, before_term, polynomial_of-append, size-sum, weight-sum, fits-sum}

module _ (l f b : List (MonoTree × ℤ)) (e : l ≡ f ++ b) where
  split : map term_in l ≡ map term_in f ++ map term_in b
  split = ap (map term_in) e ∙ map-append term_in f b

  pub halves : terms_in l ≡ raw_sum (terms_in f) (terms_in b)
  halves = ap polynomial_of split ∙ polynomial_of-append (map term_in f) (map term_in b)

  whole : ordered (terms_in l) ≡ true → Rises (map term_in f ++ map term_in b)
  whole o = subst Rises split (rises_of (map term_in l) o)

  pub front_ordered : ordered (terms_in l) ≡ true → ordered (terms_in f) ≡ true
  front_ordered o = ordered_of (map term_in f) (record { rises = front_of good_term before_term (map term_in f) (map term_in b) (whole o).rises })

  pub back_ordered : ordered (terms_in l) ≡ true → ordered (terms_in b) ≡ true
  back_ordered o = ordered_of (map term_in b) (record { rises = back_of good_term before_term (map term_in f) (map term_in b) (whole o).rises })

  weight_halves : weight_of (terms_in l) ≡ weight_of (terms_in f) + weight_of (terms_in b)
  weight_halves = ap weight_of halves ∙ weight-sum (terms_in f) (terms_in b)

  weight_left : (w : ℕ) → weight_of (terms_in l) * w ≡ weight_of (terms_in f) * w + weight_of (terms_in b) * w
  weight_left w = ap (λ v. v * w) weight_halves ∙ add-mul (weight_of (terms_in f)) (weight_of (terms_in b)) w

  weight_right : (w : ℕ) → w * weight_of (terms_in l) ≡ w * weight_of (terms_in f) + w * weight_of (terms_in b)
  weight_right w = ap (λ v. w * v) weight_halves ∙ mul-add w (weight_of (terms_in f)) (weight_of (terms_in b))

  module _ (w k : ℕ) where
    pub front_narrow_left : weight_of (terms_in l) * w ≤ k → weight_of (terms_in f) * w ≤ k
    front_narrow_left h = omega (arith, weight_left w)

    pub back_narrow_left : weight_of (terms_in l) * w ≤ k → weight_of (terms_in b) * w ≤ k
    back_narrow_left h = omega (arith, weight_left w)

    pub front_narrow_right : w * weight_of (terms_in l) ≤ k → w * weight_of (terms_in f) ≤ k
    front_narrow_right h = omega (arith, weight_right w)

    pub back_narrow_right : w * weight_of (terms_in l) ≤ k → w * weight_of (terms_in b) ≤ k
    back_narrow_right h = omega (arith, weight_right w)

-- the sum of the products of the halves is the product
pub product_left : (x y z r p q s : Polynomial) → x ≡ raw_sum y z → IsOrderedProduct y r p → IsOrderedProduct z r q → IsOrderedSum p q s
    → IsOrderedProduct x r s
product_left x y z r p q s e a b c = record {
  in_order = c.in_order;
  worth = λ f h. omega (arith, ints, c.worth f, a.worth f h, b.worth f h, worth-product_left f y z r, ap (λ t. worth_of f (raw_product t r)) e);
  size = omega (
    arith,
    c.size,
    a.size,
    b.size,
    ap (λ t. size_of t * size_of r) e ∙ ap (λ t. t * size_of r) (size-sum y z) ∙ add-mul (size_of y) (size_of z) (size_of r),
  );
  weight = omega (
    arith,
    c.weight,
    a.weight,
    b.weight,
    ap (λ t. weight_of t * weight_of r) e ∙ ap (λ t. t * weight_of r) (weight-sum y z) ∙ add-mul (weight_of y) (weight_of z) (weight_of r),
  );
  inside = λ g h.
      let k : polynomial_fits y && polynomial_fits z ≡ true = sym (fits-sum y z) ∙ ap polynomial_fits (sym e) ∙ g in
      c.inside (a.inside (and_first (polynomial_fits y) (polynomial_fits z) k) h) (b.inside (and_second (polynomial_fits y) (polynomial_fits z) k) h);
}

pub product_right : (x y z l p q s : Polynomial) → x ≡ raw_sum y z → IsOrderedProduct l y p → IsOrderedProduct l z q → IsOrderedSum p q s
    → IsOrderedProduct l x s
product_right x y z l p q s e a b c = record {
  in_order = c.in_order;
  worth = λ f h. omega (arith, ints, c.worth f, a.worth f h, b.worth f h, worth-product_right f l y z, ap (λ t. worth_of f (raw_product l t)) e);
  size = omega (
    arith,
    c.size,
    a.size,
    b.size,
    ap (λ t. size_of l * size_of t) e ∙ ap (λ t. size_of l * t) (size-sum y z) ∙ mul-add (size_of l) (size_of y) (size_of z),
  );
  weight = omega (
    arith,
    c.weight,
    a.weight,
    b.weight,
    ap (λ t. weight_of l * weight_of t) e ∙ ap (λ t. weight_of l * t) (weight-sum y z) ∙ mul-add (weight_of l) (weight_of y) (weight_of z),
  );
  inside = λ g h.
      let k : polynomial_fits y && polynomial_fits z ≡ true = sym (fits-sum y z) ∙ ap polynomial_fits (sym e) ∙ h in
      c.inside (a.inside g (and_first (polynomial_fits y) (polynomial_fits z) k)) (b.inside g (and_second (polynomial_fits y) (polynomial_fits z) k));
}

-- what a call that gives a sum of two products of halves gives
returned : (p q x y : Polynomial) (f : (t : Polynomial) → IsOrderedSum p q t → IsOrderedProduct x y t) (o : Result (Vec (MonoTree × ℤ) Global) NoMemory)
    → IfOk o (λ v. IsOrderedSum p q (terms_in v.items)) → IfOk o (λ v. IsOrderedProduct x y (terms_in v.items))
returned p q x y f (Ok v) h = f (terms_in v.items) h
returned p q x y f (Err e) h = h

module _ (l f b : List (MonoTree × ℤ)) (e : l ≡ f ++ b) (r p q : List (MonoTree × ℤ)) where
  module _ (g : IsOrderedProduct (terms_in f) (terms_in r) (terms_in p)) (h : IsOrderedProduct (terms_in b) (terms_in r) (terms_in q)) where
    pub narrow_left : weight_of (terms_in l) * weight_of (terms_in r) ≤ weight_limit → weight_of (terms_in p) + weight_of (terms_in q) ≤ weight_limit
    narrow_left n = omega (arith, weight_left l f b e (weight_of (terms_in r)), g.weight, h.weight)

    pub returned_left : (o : Result (Vec (MonoTree × ℤ) Global) NoMemory) → IfOk o (λ v. IsOrderedSum (terms_in p) (terms_in q) (terms_in v.items))
        → IfOk o (λ v. IsOrderedProduct (terms_in l) (terms_in r) (terms_in v.items))
    returned_left = returned (terms_in p) (terms_in q) (terms_in l) (terms_in r)
        (λ t s. product_left (terms_in l) (terms_in f) (terms_in b) (terms_in r) (terms_in p) (terms_in q) t (halves l f b e) g h s)

  module _ (g : IsOrderedProduct (terms_in r) (terms_in f) (terms_in p)) (h : IsOrderedProduct (terms_in r) (terms_in b) (terms_in q)) where
    pub narrow_right : weight_of (terms_in r) * weight_of (terms_in l) ≤ weight_limit → weight_of (terms_in p) + weight_of (terms_in q) ≤ weight_limit
    narrow_right n = omega (arith, weight_right l f b e (weight_of (terms_in r)), g.weight, h.weight)

    pub returned_right : (o : Result (Vec (MonoTree × ℤ) Global) NoMemory) → IfOk o (λ v. IsOrderedSum (terms_in p) (terms_in q) (terms_in v.items))
        → IfOk o (λ v. IsOrderedProduct (terms_in r) (terms_in l) (terms_in v.items))
    returned_right = returned (terms_in p) (terms_in q) (terms_in r) (terms_in l)
        (λ t s. product_right (terms_in l) (terms_in f) (terms_in b) (terms_in r) (terms_in p) (terms_in q) t (halves l f b e) g h s)

-- a product of numbers that are not 0 is not 0
abs_zero : (c : ℤ) → unsigned_abs c ≡ 0 → c ≡ pos 0
abs_zero c e = omega (arith, ints)

one_zero : (a b : ℕ) → 0 < a → 0 < b → 0 < a * b
one_zero a b h k = omega (arith, mul-step a b h k)
  where
    mul-step : (a b : ℕ) → 0 < a → 0 < b → b ≤ a * b
    mul-step zero b h k = absurd (omega arith)
    mul-step (suc a) b h k = omega (arith, add-mul a 1 b)

pub abs_pos : (c : ℤ) → not (int_eq c (pos 0)) ≡ true → 0 < unsigned_abs c
abs_pos c h = by_size (unsigned_abs c) refl
  where
    by_size : (n : ℕ) → unsigned_abs c ≡ n → 0 < n
    by_size zero e = absurd (let t : int_eq c (pos 0) ≡ true = (signed_Decides c (pos 0)).1 (abs_zero c e) in cc)
    by_size (suc n) e = omega arith

not_zero : (c d : ℤ) → not (int_eq c (pos 0)) ≡ true → not (int_eq d (pos 0)) ≡ true → not (int_eq (c *ℤ d) (pos 0)) ≡ true
not_zero c d h k = by_test (int_eq (c *ℤ d) (pos 0)) refl
  where
    by_test : (b : Bool) → int_eq (c *ℤ d) (pos 0) ≡ b → not b ≡ true
    by_test true e =
        absurd
        (omega (
          arith,
          ap unsigned_abs ((signed_Decides (c *ℤ d) (pos 0)).0 e),
          unsigned_abs-mul c d,
          one_zero (unsigned_abs c) (unsigned_abs d) (abs_pos c h) (abs_pos d k),
        ))
    by_test false e = refl

-- the product of two terms
pub product_one : (m n k : Monomial) (c d : ℤ) → ordered (Plus m c Zero) ≡ true → ordered (Plus n d Zero) ≡ true → IsOrderedJoin m n k
    → IsOrderedProduct (Plus m c Zero) (Plus n d Zero) (Plus k (c *ℤ d) Zero)
product_one m n k c d g h j = record {
  in_order =
      (let e : not (int_eq (c *ℤ d) (pos 0)) ≡ true = not_zero c d (coefficient m c g) (coefficient n d h) in
      let o : ordered_monomial k ≡ true = j.in_order in cc);
  worth = λ f i. ap (λ z. c *ℤ d *ℤ z +ℤ pos 0) (j.same f i);
  size = omega (
    arith,
    sizes (j.same size_worth size_ignores),
    size-joined m n,
    mul-add (1 + size_of_monomial m) 1 (size_of_monomial n),
    add-mul 1 (size_of_monomial m) (size_of_monomial n),
  );
  weight = omega (
    arith,
    unsigned_abs-mul c d,
    ap (λ t. t * (unsigned_abs d + 0)) (plus_zero (unsigned_abs c)),
    ap (λ t. unsigned_abs c * t) (plus_zero (unsigned_abs d)),
  );
  inside = λ p q.
      let a : fits_monomial (monomial_product m n) ≡ true = fits-joined m n
      ∙ and_from (fits_monomial m) (fits_monomial n) (and_first (fits_monomial m) true p) (and_first (fits_monomial n) true q) in
      and_from (fits_monomial k) true (fits_again k (monomial_product m n) (j.same fits_worth fits_ignores) a) refl;
}
  where
    coefficient : (m : Monomial) (c : ℤ) → ordered (Plus m c Zero) ≡ true → not (int_eq c (pos 0)) ≡ true
    coefficient m c g = and_first (not (int_eq c (pos 0))) (ordered_monomial m)
        (and_first (not (int_eq c (pos 0)) && ordered_monomial m) true (and_first (not (int_eq c (pos 0)) && ordered_monomial m && true) true g))

    sizes : pos (size_of_monomial k) ≡ pos (size_of_monomial (monomial_product m n)) → size_of_monomial k ≡ size_of_monomial (monomial_product m n)
    sizes e = cc

    plus_zero : (n : ℕ) → n + 0 ≡ n
    plus_zero n = omega arith

only_one : (l : List (MonoTree × ℤ)) (x : MonoTree × ℤ) → length l ≤ 1 → 0 < length l → x ≡ get_or l 0 x → l ≡ x ∷ []
only_one [] x h k e = absurd (omega arith)
only_one (y ∷ []) x h k e = ap (λ z. z ∷ []) (sym e)
only_one (y ∷ z ∷ l) x h k e = absurd (omega arith)

last_test : (a b : Bool) → a && b && true && true ≡ true → b ≡ true
last_test true true e = refl
last_test true false e = e
last_test false b e = cc e

-- the monomial of a list of one term is in order
pub one_ordered : (l : List (MonoTree × ℤ)) (x : MonoTree × ℤ) → length l ≤ 1 → 0 < length l → x ≡ get_or l 0 x → ordered (terms_in l) ≡ true
    → ordered_monomial (monomial_in x.0) ≡ true
one_ordered l x a b c g =
    last_test (not (int_eq x.1 (pos 0))) (ordered_monomial (monomial_in x.0)) (ap (λ t. ordered (terms_in t)) (sym (only_one l x a b c)) ∙ g)

-- the coefficients of two lists of one term weigh what the lists do
pub ones_narrow : (l r : List (MonoTree × ℤ)) (x y : MonoTree × ℤ) → length l ≤ 1 → 0 < length l → x ≡ get_or l 0 x → length r ≤ 1 → 0 < length r
    → y ≡ get_or r 0 y → weight_of (terms_in l) * weight_of (terms_in r) ≤ weight_limit → unsigned_abs x.1 * unsigned_abs y.1 ≤ weight_limit
ones_narrow l r x y a b c a' b' c' h =
    let i : weight_of (terms_in l) ≡ unsigned_abs x.1 = omega (arith, ap (λ t. weight_of (terms_in t)) (only_one l x a b c)) in
    let j : weight_of (terms_in r) ≡ unsigned_abs y.1 = omega (arith, ap (λ t. weight_of (terms_in t)) (only_one r y a' b' c')) in
    subst (λ n. n * unsigned_abs y.1 ≤ weight_limit) i (subst (λ n. weight_of (terms_in l) * n ≤ weight_limit) j h)

-- the product of two lists of one term
pub single_product : (l r old out : List (MonoTree × ℤ)) (x y : MonoTree × ℤ) (k : Monomial) (e : ℤ) → length l ≤ 1 → 0 < length l → x ≡ get_or l 0 x
    → length r ≤ 1 → 0 < length r → y ≡ get_or r 0 y → ordered (terms_in l) ≡ true → ordered (terms_in r) ≡ true
    → IsOrderedJoin (monomial_in x.0) (monomial_in y.0) k → e ≡ x.1 *ℤ y.1 → old ≡ [] → map term_in out ≡ map term_in old ++ (k, e) ∷ []
    → IsOrderedProduct (terms_in l) (terms_in r) (terms_in out)
single_product l r old out x y k e a b c a' b' c' g h j p z o =
    let i : terms_in l ≡ Plus (monomial_in x.0) x.1 Zero = ap terms_in (only_one l x a b c) in
    let i' : terms_in r ≡ Plus (monomial_in y.0) y.1 Zero = ap terms_in (only_one r y a' b' c') in
    let n : terms_in out ≡ Plus k (x.1 *ℤ y.1) Zero = ap polynomial_of (o ∙ ap (λ t. map term_in t ++ (k, e) ∷ []) z) ∙ ap (λ t. Plus k t Zero) p in
    let s : IsOrderedProduct (Plus (monomial_in x.0) x.1 Zero) (Plus (monomial_in y.0) y.1 Zero) (Plus k (x.1 *ℤ y.1) Zero) =
    product_one (monomial_in x.0) (monomial_in y.0) k x.1 y.1 (ap ordered (sym i) ∙ g) (ap ordered (sym i') ∙ h) j in
    subst (λ t. IsOrderedProduct t (terms_in r) (terms_in out)) (sym i)
    (subst (λ t. IsOrderedProduct (Plus (monomial_in x.0) x.1 Zero) t (terms_in out)) (sym i')
    (subst (λ t. IsOrderedProduct (Plus (monomial_in x.0) x.1 Zero) (Plus (monomial_in y.0) y.1 Zero) t) (sym n) s))
