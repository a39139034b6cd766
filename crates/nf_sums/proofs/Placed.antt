-- Monomials put in their places.
use Rattle.std.proofs.Common.{◌≡◌, ℕ, zero, suc, ◌+◌, ◌<◌, ◌≤◌, ℤ, pos, ◌+ℤ◌, true, false, not, cond, unsigned_abs, List, [], ◌∷◌, ◌++◌, take, drop, length}
use Rattle.std.proofs.Common.{get_or, set, add-one, arith, refl, ap, sym, subst, ◌∙◌}
use Rattle.std.specs.declared.cmp.Ordering.{Ordering}
use Rattle.std.specs.declared.cmp.Ordering.TheVariants.{Less, Equal, Greater}
use Rattle.std.specs.Cmp.{signed_Decides}
use Rattle.std.specs.Ordering.{is_lt, is_eq, int_eq, ordering_reverse}
use Rattle.std.proofs.lemmas.Bool.{and_from}
use Rattle.nf_terms.proofs.Booleans.{and_first, and_second, by_test}
use Rattle.nf_terms.proofs.Orderings.{is_eq-true, is_lt-true}
use Rattle.nf_trees.specs.NormalTerms.{Monomial, Polynomial, Zero, Plus, polynomial_of}
use Rattle.nf_trees.specs.View.{monomial_in}
use Rattle.nf_trees.specs.Order.{cmp_monomial}
use Rattle.nf_trees.specs.Comparison.{monomials_total}
use Rattle.nf_trees.specs.Measures.{size_of, size_of_monomial, weight_of}
use Rattle.nf_terms.specs.TermLimits.{weight_limit, size_limit}
use Rattle.nf_terms.specs.Normal.{IsNormal, ordered}
use Rattle.nf_terms.specs.RawSums.{raw_sum, IsNormalFormOf}
use Rattle.nf_trees.specs.declared.tree.MonoTree.{MonoTree}
use Rattle.nf_sums.proofs.Partings.{ordered_term}
use Rattle.nf_sums.specs.RawSumForms.{with_term, plus, by_order}
use Rattle.nf_sums.specs.Accumulators.{stand_before, begins_behind, begins_with, coefficient_of, with_first, with_more, IsMeasured}
use Rattle.nf_sums.proofs.Terms.{terms_in, size-sum, weight-sum}
use Rattle.nf_sums.proofs.Turns.{next, weight_at}
use Rattle.nf_sums.proofs.Grown.{all_more}

-- ---- where a monomial has its place
pub terms_joined : (a b : List (MonoTree × ℤ)) → terms_in (a ++ b) ≡ raw_sum (terms_in a) (terms_in b)
terms_joined [] b = refl
terms_joined (x ∷ a) b = ap (Plus (monomial_in x.0) x.1) (terms_joined a b)

pub before_step : (m : Monomial) (l : List (MonoTree × ℤ)) (k : ℕ) (x : MonoTree × ℤ) → ordered (terms_in l) ≡ true → k < length l → x ≡ get_or l k x
    → is_lt (cmp_monomial (monomial_in x.0) m) ≡ true → stand_before m (terms_in (take (suc k) l)) ≡ true
before_step m [] k x o h e g = absurd (omega arith)
before_step m (y ∷ l) zero x o h e g = and_from (is_lt (cmp_monomial (monomial_in y.0) m)) true
    (ap (λ z. is_lt (cmp_monomial (monomial_in z.0) m)) (sym e) ∙ g) refl
before_step m (y ∷ []) (suc k) x o h e g = absurd (omega arith)
before_step m (y ∷ z ∷ l) (suc k) x o h e g =
    let again : stand_before m (terms_in (take (suc k) (z ∷ l))) ≡ true =
    before_step m (z ∷ l) k x (ordered_term (monomial_in y.0) y.1 (terms_in (z ∷ l)) o).rest (omega arith) e g in
    let first : is_lt (cmp_monomial (monomial_in z.0) m) ≡ true =
    and_first (is_lt (cmp_monomial (monomial_in z.0) m)) (stand_before m (terms_in (take k l))) again in
    and_from (is_lt (cmp_monomial (monomial_in y.0) m)) (stand_before m (terms_in (take (suc k) (z ∷ l))))
    (ap is_lt
    (monomials_total.trans (monomial_in y.0) (monomial_in z.0) m
    (is_lt-true (cmp_monomial (monomial_in y.0) (monomial_in z.0)) (ordered_term (monomial_in y.0) y.1 (terms_in (z ∷ l)) o).rises)
    (is_lt-true (cmp_monomial (monomial_in z.0) m) first))) again

pub before_more : (m : Monomial) (l : List (MonoTree × ℤ)) (k : ℕ) (x : MonoTree × ℤ) → ordered (terms_in l) ≡ true → k < length l → x ≡ get_or l k x
    → is_lt (cmp_monomial (monomial_in x.0) m) ≡ true → stand_before m (terms_in (take (k + 1) l)) ≡ true
before_more m l k x o h e g = subst (λ n. stand_before m (terms_in (take n l)) ≡ true) (sym (add-one k)) (before_step m l k x o h e g)

pub behind_here : (m : Monomial) (l : List (MonoTree × ℤ)) (k : ℕ) (x : MonoTree × ℤ) → k < length l → x ≡ get_or l k x
    → is_lt (cmp_monomial (monomial_in x.0) m) ≡ false → begins_behind m (terms_in (drop k l)) ≡ true
behind_here m l k x h e g = ap (λ ts. begins_behind m (polynomial_of ts)) (next l k x h e) ∙ ap not g

-- ---- a monomial put there
greater_of : (m n : Monomial) → is_lt (cmp_monomial n m) ≡ true → cmp_monomial m n ≡ Greater
greater_of m n e = monomials_total.antisymm m n ∙ ap ordering_reverse (is_lt-true (cmp_monomial n m) e)

passed : (m : Monomial) (c : ℤ) (front back : Polynomial) → stand_before m front ≡ true
    → with_term m c (raw_sum front back) ≡ raw_sum front (with_term m c back)
passed m c Zero back s = refl
passed m c (Plus n d p) back s =
    ap (λ r. by_order r (plus m c (Plus n d (raw_sum p back))) (plus n (c +ℤ d) (raw_sum p back)) (Plus n d (with_term m c (raw_sum p back))))
    (greater_of m n (and_first (is_lt (cmp_monomial n m)) (stand_before m p) s))
    ∙ ap (Plus n d) (passed m c p back (and_second (is_lt (cmp_monomial n m)) (stand_before m p) s))

plus_is : (m : Monomial) (c : ℤ) (p : Polynomial) → int_eq c (pos 0) ≡ false → plus m c p ≡ Plus m c p
plus_is m c p z = ap (λ b. cond b p (Plus m c p)) z

new_term : (m : Monomial) (c : ℤ) (back : Polynomial) → int_eq c (pos 0) ≡ false → begins_behind m back ≡ true → begins_with m back ≡ false
    → with_term m c back ≡ Plus m c back
new_term m c Zero z b w = plus_is m c Zero z
new_term m c (Plus n d p) z b w = by_value (cmp_monomial m n) refl
  where
    by_value : (r : Ordering) → cmp_monomial m n ≡ r → with_term m c (Plus n d p) ≡ Plus m c (Plus n d p)
    by_value Less e = ap (λ r. by_order r (plus m c (Plus n d p)) (plus n (c +ℤ d) p) (Plus n d (with_term m c p))) e ∙ plus_is m c (Plus n d p) z
    by_value Equal e = absurd (let k : true ≡ false = sym (ap is_eq e) ∙ w in cc k)
    by_value Greater e = absurd (let k : false ≡ true = sym (ap (λ r. not (is_lt r)) (monomials_total.antisymm n m ∙ ap ordering_reverse e)) ∙ b in cc k)

old_term : (m : Monomial) (c : ℤ) (back : Polynomial) → begins_with m back ≡ true → with_term m c back ≡ with_more c back
old_term m c Zero w = absurd (cc w)
old_term m c (Plus n d p) w = ap (λ r. by_order r (plus m c (Plus n d p)) (plus n (c +ℤ d) p) (Plus n d (with_term m c p))) (is_eq-true (cmp_monomial m n) w)

pub split_at : (k : ℕ) (l : List (MonoTree × ℤ)) → raw_sum (terms_in (take k l)) (terms_in (drop k l)) ≡ terms_in l
split_at zero l = refl
split_at (suc k) [] = refl
split_at (suc k) (x ∷ l) = ap (Plus (monomial_in x.0) x.1) (split_at k l)

-- the sum where a new monomial was put, and where one that stands there got a coefficient more
pub put_new : (m : Monomial) (c : ℤ) (k : ℕ) (l : List (MonoTree × ℤ)) → int_eq c (pos 0) ≡ false → stand_before m (terms_in (take k l)) ≡ true
    → begins_behind m (terms_in (drop k l)) ≡ true → begins_with m (terms_in (drop k l)) ≡ false
    → raw_sum (terms_in (take k l)) (Plus m c (terms_in (drop k l))) ≡ with_term m c (terms_in l)
put_new m c k l z s b w =
    ap (raw_sum (terms_in (take k l))) (sym (new_term m c (terms_in (drop k l)) z b w)) ∙ sym (passed m c (terms_in (take k l)) (terms_in (drop k l)) s)
    ∙ ap (with_term m c) (split_at k l)

pub put_old : (m : Monomial) (c : ℤ) (k : ℕ) (l : List (MonoTree × ℤ)) → stand_before m (terms_in (take k l)) ≡ true
    → begins_with m (terms_in (drop k l)) ≡ true
    → raw_sum (terms_in (take k l)) (with_more c (terms_in (drop k l))) ≡ with_term m c (terms_in l)
put_old m c k l s w =
    ap (raw_sum (terms_in (take k l))) (sym (old_term m c (terms_in (drop k l)) w)) ∙ sym (passed m c (terms_in (take k l)) (terms_in (drop k l)) s)
    ∙ ap (with_term m c) (split_at k l)

-- ---- a coefficient more
pub coefficient_at : (l : List (MonoTree × ℤ)) (k : ℕ) (x : MonoTree × ℤ) → k < length l → x ≡ get_or l k x → coefficient_of (terms_in (drop k l)) ≡ x.1
coefficient_at [] k x h e = absurd (omega arith)
coefficient_at (y ∷ l) zero x h e = ap (λ z. z.1) (sym e)
coefficient_at (y ∷ l) (suc k) x h e = coefficient_at l k x (omega arith) e

pub fits_more : (l : List (MonoTree × ℤ)) (k : ℕ) (x : MonoTree × ℤ) (c : ℤ) → k < length l → x ≡ get_or l k x
    → weight_of (terms_in l) + unsigned_abs c ≤ weight_limit → unsigned_abs c + unsigned_abs x.1 ≤ weight_limit
fits_more l k x c h e w = omega (arith, w, weight_at l k x h e)

pub removed_at : (k : ℕ) (l : List (MonoTree × ℤ)) (t : ℤ) → k < length l → int_eq t (pos 0) ≡ true
    → terms_in (take k l ++ drop (suc k) l) ≡ raw_sum (terms_in (take k l)) (with_first t (terms_in (drop k l)))
removed_at k [] t h z = absurd (omega arith)
removed_at zero (y ∷ l) t h z = sym (ap (λ b. cond b (terms_in l) (Plus (monomial_in y.0) t (terms_in l))) z)
removed_at (suc k) (y ∷ l) t h z = ap (Plus (monomial_in y.0) y.1) (removed_at k l t (omega arith) z)

pub changed_at : (k : ℕ) (l : List (MonoTree × ℤ)) (x : MonoTree × ℤ) (t : ℤ) → k < length l → x ≡ get_or l k x → int_eq t (pos 0) ≡ false
    → terms_in (set l k (x.0, t)) ≡ raw_sum (terms_in (take k l)) (with_first t (terms_in (drop k l)))
changed_at k [] x t h e z = absurd (omega arith)
changed_at zero (y ∷ l) x t h e z = ap (λ w. Plus (monomial_in w.0) t (terms_in l)) e ∙ sym (plus_is (monomial_in y.0) t (terms_in l) z)
changed_at (suc k) (y ∷ l) x t h e z = ap (Plus (monomial_in y.0) y.1) (changed_at k l x t (omega arith) e z)

-- ---- the measures where a coefficient changes
pub size_at : (l : List (MonoTree × ℤ)) (k : ℕ) (x : MonoTree × ℤ) → k < length l → x ≡ get_or l k x
    → 1 + size_of_monomial (monomial_in x.0) ≤ size_of (terms_in l)
size_at [] k x h e = absurd (omega arith)
size_at (y ∷ l) zero x h e = let f : size_of_monomial (monomial_in x.0) ≡ size_of_monomial (monomial_in y.0) =
    ap (λ t. size_of_monomial (monomial_in t.0)) e in omega arith
size_at (y ∷ l) (suc k) x h e = omega (arith, size_at l k x (omega arith) e)

pub ruleset terms_at = (weight_at, size_at)

pub size_stays : (l : List (MonoTree × ℤ)) (k : ℕ) (t : ℤ) → k < length l → int_eq t (pos 0) ≡ false
    → size_of (raw_sum (terms_in (take k l)) (with_first t (terms_in (drop k l)))) ≡ size_of (terms_in l)
size_stays [] k t h z = absurd (omega arith)
size_stays (y ∷ l) zero t h z = ap size_of (plus_is (monomial_in y.0) t (terms_in l) z)
size_stays (y ∷ l) (suc k) t h z = omega (arith, size_stays l k t (omega arith) z)

pub size_falls : (l : List (MonoTree × ℤ)) (k : ℕ) (x : MonoTree × ℤ) (t : ℤ) → k < length l → x ≡ get_or l k x → int_eq t (pos 0) ≡ true
    → size_of (raw_sum (terms_in (take k l)) (with_first t (terms_in (drop k l)))) + (1 + size_of_monomial (monomial_in x.0)) ≡ size_of (terms_in l)
size_falls [] k x t h e z = absurd (omega arith)
size_falls (y ∷ l) zero x t h e z =
    let f : size_of (plus (monomial_in y.0) t (terms_in l)) ≡ size_of (terms_in l) =
    ap (λ b. size_of (cond b (terms_in l) (Plus (monomial_in y.0) t (terms_in l)))) z in
    let g : size_of_monomial (monomial_in x.0) ≡ size_of_monomial (monomial_in y.0) = ap (λ w. size_of_monomial (monomial_in w.0)) e in
    omega (arith, f, g)
size_falls (y ∷ l) (suc k) x t h e z = omega (arith, size_falls l k x t (omega arith) e z)

weight_plus : (m : Monomial) (c : ℤ) (p : Polynomial) → weight_of (plus m c p) ≡ unsigned_abs c + weight_of p
weight_plus m c p = by_test (λ t. weight_of t ≡ unsigned_abs c + weight_of p) p (Plus m c p) (int_eq c (pos 0))
    (λ e. omega (arith, ap unsigned_abs ((signed_Decides c (pos 0)).0 e))) (λ e. refl)

pub weight_changes : (l : List (MonoTree × ℤ)) (k : ℕ) (x : MonoTree × ℤ) (t : ℤ) → k < length l → x ≡ get_or l k x
    → weight_of (raw_sum (terms_in (take k l)) (with_first t (terms_in (drop k l)))) + unsigned_abs x.1 ≡ weight_of (terms_in l) + unsigned_abs t
weight_changes [] k x t h e = absurd (omega arith)
weight_changes (y ∷ l) zero x t h e = omega (arith, weight_plus (monomial_in y.0) t (terms_in l), ap (λ w. unsigned_abs w.1) e)
weight_changes (y ∷ l) (suc k) x t h e = omega (arith, weight_changes l k x t (omega arith) e)

-- ---- a sum that grows by one monomial
module _ (l : List (MonoTree × ℤ)) (size weight k : ℕ) (m : Monomial) (c : ℤ) (have : IsMeasured (terms_in l) size weight) (one : IsNormal (Plus m c Zero))
    (small : size + (1 + size_of_monomial m) ≤ size_limit) (narrow : weight + unsigned_abs c ≤ weight_limit)
    (before : stand_before m (terms_in (take k l)) ≡ true) where
  grown_form : IsNormalFormOf (with_term m c (terms_in l)) (raw_sum (terms_in l) (Plus m c Zero))
  grown_form = all_more (terms_in l) (Plus m c Zero) have.normal one (omega (arith, have.has_weight, narrow)) (omega (arith, have.has_size, small))

  module _ (q : Polynomial) (behind : begins_behind m (terms_in (drop k l)) ≡ true) (new : begins_with m (terms_in (drop k l)) ≡ false)
      (is : q ≡ raw_sum (terms_in (take k l)) (Plus m c (terms_in (drop k l)))) where
    pub new_is : q ≡ with_term m c (terms_in l)
    new_is = is ∙ put_new m c k l (ordered_term m c Zero one.ordered).nonzero before behind new

    pub new_measured : (s w : ℕ) → s ≡ size + (1 + size_of_monomial m) → w ≡ weight + unsigned_abs c → IsMeasured q s w
    new_measured s w e f = record {
      normal = subst IsNormal (sym new_is) grown_form.normal;
      has_size =
          let a = size-sum (terms_in (take k l)) (Plus m c (terms_in (drop k l))) in
          let b = size-sum (terms_in (take k l)) (terms_in (drop k l)) in
          let d : size_of (raw_sum (terms_in (take k l)) (terms_in (drop k l))) ≡ size_of (terms_in l) = ap size_of (split_at k l) in
          let g : size_of q ≡ size_of (raw_sum (terms_in (take k l)) (Plus m c (terms_in (drop k l)))) = ap size_of is in
          omega (arith, have.has_size, e, a, b, d, g);
      has_weight =
          let a = weight-sum (terms_in (take k l)) (Plus m c (terms_in (drop k l))) in
          let b = weight-sum (terms_in (take k l)) (terms_in (drop k l)) in
          let d : weight_of (raw_sum (terms_in (take k l)) (terms_in (drop k l))) ≡ weight_of (terms_in l) = ap weight_of (split_at k l) in
          let g : weight_of q ≡ weight_of (raw_sum (terms_in (take k l)) (Plus m c (terms_in (drop k l)))) = ap weight_of is in
          omega (arith, have.has_weight, f, a, b, d, g);
    }

  module _ (q : Polynomial) (old : begins_with m (terms_in (drop k l)) ≡ true)
      (is : q ≡ raw_sum (terms_in (take k l)) (with_more c (terms_in (drop k l)))) where
    pub old_is : q ≡ with_term m c (terms_in l)
    old_is = is ∙ put_old m c k l before old

    pub old_measured : (s w : ℕ) → s ≡ size_of q → w ≡ weight_of q → IsMeasured q s w
    old_measured s w e f = record { normal = subst IsNormal (sym old_is) grown_form.normal; has_size = e; has_weight = f }
