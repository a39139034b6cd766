-- The merge of two ordered lists of terms.
use Rattle.std.proofs.Common.{◌≡◌, ◌+◌, ◌≤◌, ℤ, pos, ◌+ℤ◌, ◌*ℤ◌, Bool, true, false, ◌&&◌, not, cond, List, [], ◌∷◌, ◌++◌, arith, refl, ap, sym, subst, ◌∙◌}
use Rattle.std.proofs.lemmas.Int.{ints}
use Rattle.std.proofs.lemmas.List.{append-nil}
use Rattle.std.specs.Ordering.{int_eq, is_lt}
use Rattle.std.specs.Cmp.{signed_Decides}
use Rattle.std.specs.declared.cmp.Ordering.TheVariants.{Equal}
use Rattle.std.proofs.lemmas.Bool.{and_from}
use Rattle.nf_terms.proofs.Booleans.{and_first, and_second}
use Rattle.nf_terms.proofs.Orderings.{is_lt-true}
use Rattle.nf_terms.proofs.Integers.{unsigned_abs-add}
use Rattle.nf_trees.specs.NormalTerms.{Monomial, polynomial_of}
use Rattle.nf_trees.specs.Order.{cmp_monomial}
use Rattle.nf_trees.specs.TermKeys.{monomial_ties}
use Rattle.nf_trees.specs.Comparison.{monomials_total}
use Rattle.nf_terms.specs.Normal.{ordered, ordered_monomial}
use Rattle.nf_sums.specs.OrderedSums.{fits_monomial, IsOrderedSum, term_unless_zero}
use Rattle.nf_sums.proofs.Sorted.{follows, good_of, sorted_move, sorted_insert, sorted_drop, sorted_change, back_of}
use Rattle.nf_sums.proofs.Terms.{Rises, rises_of, ordered_of, good_term, before_term, term_worth, term_size, term_weight, terms_fit, term_worth-append}
use Rattle.nf_sums.proofs.Terms.{term_size-append, term_weight-append, terms_fit-append}
use Rattle.nf_terms.proofs.Ring.{add-mul_z}

before_trans : (r s t : Monomial × ℤ) → before_term r s ≡ true → before_term s t ≡ true → before_term r t ≡ true
before_trans r s t p q = ap is_lt (monomials_total.trans r.0 s.0 t.0 (is_lt-true _ p) (is_lt-true _ q))

-- a merge on its way: what is out, and what is left of both sides
pub record Merging (l r out a b : List (Monomial × ℤ)) : Type 0 where
  pub left : Rises (out ++ a)
  pub right : Rises (out ++ b)
  pub worth : (f : Monomial → ℤ) → term_worth f out +ℤ (term_worth f a +ℤ term_worth f b) ≡ term_worth f l +ℤ term_worth f r
  pub size : term_size out + (term_size a + term_size b) ≤ term_size l + term_size r
  pub weight : term_weight out + (term_weight a + term_weight b) ≤ term_weight l + term_weight r
  pub inside : terms_fit l ≡ true → terms_fit r ≡ true → terms_fit out && (terms_fit a && terms_fit b) ≡ true

pub started : (l r : List (Monomial × ℤ)) → ordered (polynomial_of l) ≡ true → ordered (polynomial_of r) ≡ true → Merging l r [] l r
started l r p q = record {
  left = rises_of l p;
  right = rises_of r q;
  worth = λ f. omega (arith, ints);
  size = omega arith;
  weight = omega arith;
  inside = λ a b. cc;
}

pub finished : (l r out : List (Monomial × ℤ)) → Merging l r out [] [] → IsOrderedSum (polynomial_of l) (polynomial_of r) (polynomial_of out)
finished l r out m = record {
  in_order = ordered_of out (rw (← append-nil out) m.left);
  worth = λ f. omega (arith, ints, m.worth f);
  size = omega (arith, m.size);
  weight = omega (arith, m.weight);
  inside = λ p q. and_first (terms_fit out) true (m.inside p q);
}

-- fits, x going from the second to the first
fit_left : (o x a b : Bool) → o && (x && a && b) ≡ true → o && (x && true) && (a && b) ≡ true
fit_left true true a b e = e
fit_left true false a b e = cc
fit_left false x a b e = cc

fit_right : (o a x b : Bool) → o && (a && (x && b)) ≡ true → o && (x && true) && (a && b) ≡ true
fit_right true true true b e = e
fit_right true true false b e = cc
fit_right true false x b e = cc
fit_right false a x b e = cc

fit_none : (o x a b : Bool) → o && (x && a && (x && b)) ≡ true → o && (a && b) ≡ true
fit_none true true a b e = e
fit_none true false a b e = cc
fit_none false x a b e = cc

fit_both : (o x a b : Bool) → o && (x && a && (x && b)) ≡ true → o && (x && true) && (a && b) ≡ true
fit_both true true a b e = e
fit_both true false a b e = cc
fit_both false x a b e = cc

module _ (l r out : List (Monomial × ℤ)) where
  pub merge_left : (x : Monomial × ℤ) (a b : List (Monomial × ℤ)) → Merging l r out (x ∷ a) b → follows before_term x b ≡ true → Merging l r (out ++ x ∷ []) a b
  merge_left x a b m f = record {
    left = record { rises = sorted_move good_term before_term out x a m.left.rises };
    right = record { rises = sorted_insert good_term before_term out x a b m.left.rises m.right.rises f };
    worth = λ g. omega (arith, ints, m.worth g, term_worth-append g out (x ∷ []));
    size = omega (arith, m.size, term_size-append out (x ∷ []));
    weight = omega (arith, m.weight, term_weight-append out (x ∷ []));
    inside = λ p q. ap (λ t. t && (terms_fit a && terms_fit b)) (terms_fit-append out (x ∷ []))
        ∙ fit_left (terms_fit out) (fits_monomial x.0) (terms_fit a) (terms_fit b) (m.inside p q);
  }

  pub merge_right : (x : Monomial × ℤ) (a b : List (Monomial × ℤ)) → Merging l r out a (x ∷ b) → follows before_term x a ≡ true
      → Merging l r (out ++ x ∷ []) a b
  merge_right x a b m f = record {
    left = record { rises = sorted_insert good_term before_term out x b a m.right.rises m.left.rises f };
    right = record { rises = sorted_move good_term before_term out x b m.right.rises };
    worth = λ g. omega (arith, ints, m.worth g, term_worth-append g out (x ∷ []));
    size = omega (arith, m.size, term_size-append out (x ∷ []));
    weight = omega (arith, m.weight, term_weight-append out (x ∷ []));
    inside = λ p q. ap (λ t. t && (terms_fit a && terms_fit b)) (terms_fit-append out (x ∷ []))
        ∙ fit_right (terms_fit out) (terms_fit a) (fits_monomial x.0) (terms_fit b) (m.inside p q);
  }

  module _ (n : Monomial) (c d : ℤ) (a b : List (Monomial × ℤ)) (m : Merging l r out ((n, c) ∷ a) ((n, d) ∷ b)) where
    pub merge_none : c +ℤ d ≡ pos 0 → Merging l r out a b
    merge_none e = record {
      left = record { rises = sorted_drop good_term before_term before_trans out (n, c) a m.left.rises };
      right = record { rises = sorted_drop good_term before_term before_trans out (n, d) b m.right.rises };
      worth = λ g. omega (arith, ints, m.worth g, add-mul_z c d (g n), ap (λ z. z *ℤ g n) e);
      size = omega (arith, m.size);
      weight = omega (arith, m.weight);
      inside = λ p q. fit_none (terms_fit out) (fits_monomial n) (terms_fit a) (terms_fit b) (m.inside p q);
    }

    pub merge_both : not (int_eq (c +ℤ d) (pos 0)) ≡ true → Merging l r (out ++ (n, c +ℤ d) ∷ []) a b
    merge_both e = record {
      left = record {
        rises = sorted_move good_term before_term out (n, c +ℤ d) a
            (sorted_change good_term before_term (n, c) (n, c +ℤ d) good (λ z. refl) (λ z. refl) out a m.left.rises);
      };
      right = record {
        rises = sorted_move good_term before_term out (n, c +ℤ d) b
            (sorted_change good_term before_term (n, d) (n, c +ℤ d) good (λ z. refl) (λ z. refl) out b m.right.rises);
      };
      worth = λ g. omega (arith, ints, m.worth g, add-mul_z c d (g n), term_worth-append g out ((n, c +ℤ d) ∷ []));
      size = omega (arith, m.size, term_size-append out ((n, c +ℤ d) ∷ []));
      weight = omega (arith, m.weight, term_weight-append out ((n, c +ℤ d) ∷ []), unsigned_abs-add c d);
      inside = λ p q. ap (λ t. t && (terms_fit a && terms_fit b)) (terms_fit-append out ((n, c +ℤ d) ∷ []))
          ∙ fit_both (terms_fit out) (fits_monomial n) (terms_fit a) (terms_fit b) (m.inside p q);
    }
      where
        good : good_term (n, c +ℤ d) ≡ true
        good = and_from (not (int_eq (c +ℤ d) (pos 0))) (ordered_monomial n) e
            (and_second (not (int_eq c (pos 0))) (ordered_monomial n)
            (good_of good_term before_term (n, c) a (back_of good_term before_term out ((n, c) ∷ a) m.left.rises)))

  -- the first terms are of one monomial
  pub merge_equal : (x y : Monomial) (c d : ℤ) (a b out' : List (Monomial × ℤ)) → Merging l r out ((x, c) ∷ a) ((y, d) ∷ b) → cmp_monomial x y ≡ Equal
      → out' ≡ out ++ term_unless_zero x (c +ℤ d) → Merging l r out' a b
  merge_equal x y c d a b out' m e o = by_value (int_eq (c +ℤ d) (pos 0)) refl o
    where
      heads : Merging l r out ((x, c) ∷ a) ((x, d) ∷ b)
      heads = subst (λ n. Merging l r out ((x, c) ∷ a) ((n, d) ∷ b)) (sym (monomial_ties x y e)) m

      by_value : (t : Bool) → int_eq (c +ℤ d) (pos 0) ≡ t → out' ≡ out ++ cond t [] ((x, c +ℤ d) ∷ []) → Merging l r out' a b
      by_value true z o' = rw (o', append-nil) (merge_none x c d a b heads ((signed_Decides (c +ℤ d) (pos 0)).0 z))
      by_value false z o' = rw o' (merge_both x c d a b heads (ap not z))
