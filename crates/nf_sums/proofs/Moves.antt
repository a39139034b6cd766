-- The turns of a merge that moves the first terms of two lists.
use Rattle.std.proofs.Common.{◌≡◌, ◌+◌, ◌<◌, ◌≤◌, ℤ, true, Some, None, List, [], ◌∷◌, ◌++◌, map, take, drop, length, get_or, arith, refl, ap, sym, subst, ◌∙◌}
use Rattle.std.proofs.lemmas.List.{map-append}
use Rattle.std.specs.declared.cmp.Ordering.TheVariants.{Less, Equal, Greater}
use Rattle.std.specs.Ordering.{is_lt, ordering_reverse}
use Rattle.nf_trees.specs.View.{term_in, monomial_in}
use Rattle.nf_trees.specs.Order.{cmp_monomial}
use Rattle.nf_trees.specs.Measures.{weight_of}
use Rattle.nf_terms.specs.TermLimits.{weight_limit}
use Rattle.nf_terms.specs.Normal.{ordered}
use Rattle.nf_trees.specs.Comparison.{monomials_total}
use Rattle.nf_trees.specs.declared.tree.MonoTree.{MonoTree}
use Rattle.nf_sums.specs.OrderedSums.{IsOrderedSum, first_order, joined_firsts}
use Rattle.nf_sums.proofs.Terms.{terms_in}
use Rattle.nf_sums.proofs.Merging.{Merging, started, finished, merge_left, merge_right, merge_equal}

-- ---- how the first terms stand
pub first_both : (a b : List (MonoTree × ℤ)) (x y : MonoTree × ℤ) → 0 < length a → x ≡ get_or a 0 x → 0 < length b → y ≡ get_or b 0 y
    → Some (cmp_monomial (monomial_in x.0) (monomial_in y.0)) ≡ first_order (terms_in a) (terms_in b)
first_both [] b x y h e k f = absurd (omega arith)
first_both (s ∷ a) [] x y h e k f = absurd (omega arith)
first_both (s ∷ a) (t ∷ b) x y h e k f = λ i. Some (cmp_monomial (monomial_in (e i).0) (monomial_in (f i).0))

pub first_left : (a b : List (MonoTree × ℤ)) → 0 < length a → length b ≤ 0 → Some Less ≡ first_order (terms_in a) (terms_in b)
first_left [] b h k = absurd (omega arith)
first_left (s ∷ a) [] h k = refl
first_left (s ∷ a) (t ∷ b) h k = absurd (omega arith)

pub first_right : (a b : List (MonoTree × ℤ)) → length a ≤ 0 → 0 < length b → Some Greater ≡ first_order (terms_in a) (terms_in b)
first_right [] [] h k = absurd (omega arith)
first_right [] (t ∷ b) h k = refl
first_right (s ∷ a) b h k = absurd (omega arith)

pub first_none : (a b : List (MonoTree × ℤ)) → length a ≤ 0 → length b ≤ 0 → None ≡ first_order (terms_in a) (terms_in b)
first_none [] [] h k = refl
first_none [] (t ∷ b) h k = absurd (omega arith)
first_none (s ∷ a) b h k = absurd (omega arith)

-- ---- what is moved into out, and what is left of both lists
pub record Moved (l r out a b : List (MonoTree × ℤ)) : Type 0 where
  pub so_far : Merging (map term_in l) (map term_in r) (map term_in out) (map term_in a) (map term_in b)

pub begun : (l r out a b : List (MonoTree × ℤ)) → out ≡ [] → a ≡ l → b ≡ r → ordered (terms_in l) ≡ true → ordered (terms_in r) ≡ true → Moved l r out a b
begun l r out a b e f h p q =
    let m : Moved l r [] l r = record { so_far = started (map term_in l) (map term_in r) p q } in
    subst (λ o. Moved l r o a b) (sym e) (subst (λ x. Moved l r [] x b) (sym f) (subst (λ y. Moved l r [] l y) (sym h) m))

-- where the first terms are of one monomial, both lists have one
pub both_there : (a b : List (MonoTree × ℤ)) → Some Equal ≡ first_order (terms_in a) (terms_in b) → (0 < length a) × (0 < length b)
both_there [] [] e = cc e
both_there [] (t ∷ b) e = cc e
both_there (s ∷ a) [] e = cc e
both_there (s ∷ a) (t ∷ b) e = (omega arith, omega arith)

pub room : (l r out a b : List (MonoTree × ℤ)) → Moved l r out a b → weight_of (terms_in l) + weight_of (terms_in r) ≤ weight_limit
    → weight_of (terms_in a) + weight_of (terms_in b) ≤ weight_limit
room l r out a b m h = omega (arith, m.so_far.weight, h)

pub ended : (l r out a b : List (MonoTree × ℤ)) → Moved l r out a b → None ≡ first_order (terms_in a) (terms_in b)
    → IsOrderedSum (terms_in l) (terms_in r) (terms_in out)
ended l r out [] [] m e = finished (map term_in l) (map term_in r) (map term_in out) m.so_far
ended l r out [] (t ∷ b) m e = cc e
ended l r out (s ∷ a) [] m e = cc e
ended l r out (s ∷ a) (t ∷ b) m e = cc e

module _ (l r out : List (MonoTree × ℤ)) where
  pushed : (s : MonoTree × ℤ) (a b out' : List (MonoTree × ℤ))
      → Merging (map term_in l) (map term_in r) (map term_in out ++ term_in s ∷ []) (map term_in a) (map term_in b) → out' ≡ out ++ s ∷ [] → Moved l r out' a b
  pushed s a b out' m o = record {
    so_far = subst (λ t. Merging (map term_in l) (map term_in r) t (map term_in a) (map term_in b))
        (sym (ap (map term_in) o ∙ map-append term_in out (s ∷ []))) m;
  }

  pub moved_left : (a b out' a' : List (MonoTree × ℤ)) → Moved l r out a b → Some Less ≡ first_order (terms_in a) (terms_in b) → out' ≡ out ++ take 1 a
      → a' ≡ drop 1 a → Moved l r out' a' b
  moved_left [] [] out' a' m e o d = cc e
  moved_left [] (t ∷ b) out' a' m e o d = cc e
  moved_left (s ∷ a) [] out' a' m e o d =
      subst (λ x. Moved l r out' x []) (sym d)
      (pushed s a [] out' (merge_left (map term_in l) (map term_in r) (map term_in out) (term_in s) (map term_in a) [] m.so_far refl) o)
  moved_left (s ∷ a) (t ∷ b) out' a' m e o d =
      let less : cmp_monomial (monomial_in s.0) (monomial_in t.0) ≡ Less = cc e in
      subst (λ x. Moved l r out' x (t ∷ b)) (sym d)
      (pushed s a (t ∷ b) out'
      (merge_left (map term_in l) (map term_in r) (map term_in out) (term_in s) (map term_in a) (map term_in (t ∷ b)) m.so_far (ap is_lt less)) o)

  pub moved_right : (a b out' b' : List (MonoTree × ℤ)) → Moved l r out a b → Some Greater ≡ first_order (terms_in a) (terms_in b) → out' ≡ out ++ take 1 b
      → b' ≡ drop 1 b → Moved l r out' a b'
  moved_right [] [] out' b' m e o d = cc e
  moved_right (s ∷ a) [] out' b' m e o d = cc e
  moved_right [] (t ∷ b) out' b' m e o d =
      subst (λ y. Moved l r out' [] y) (sym d)
      (pushed t [] b out' (merge_right (map term_in l) (map term_in r) (map term_in out) (term_in t) [] (map term_in b) m.so_far refl) o)
  moved_right (s ∷ a) (t ∷ b) out' b' m e o d =
      let greater : cmp_monomial (monomial_in s.0) (monomial_in t.0) ≡ Greater = cc e in
      let less : cmp_monomial (monomial_in t.0) (monomial_in s.0) ≡ Less = monomials_total.antisymm (monomial_in t.0) (monomial_in s.0)
      ∙ ap ordering_reverse greater in
      subst (λ y. Moved l r out' (s ∷ a) y) (sym d)
      (pushed t (s ∷ a) b out'
      (merge_right (map term_in l) (map term_in r) (map term_in out) (term_in t) (map term_in (s ∷ a)) (map term_in b) m.so_far (ap is_lt less)) o)

  pub moved_both : (a b out' a' b' : List (MonoTree × ℤ)) → Moved l r out a b → Some Equal ≡ first_order (terms_in a) (terms_in b)
      → map term_in out' ≡ map term_in out ++ joined_firsts (terms_in a) (terms_in b) → a' ≡ drop 1 a → b' ≡ drop 1 b → Moved l r out' a' b'
  moved_both [] [] out' a' b' m e o d f = cc e
  moved_both [] (t ∷ b) out' a' b' m e o d f = cc e
  moved_both (s ∷ a) [] out' a' b' m e o d f = cc e
  moved_both (s ∷ a) (t ∷ b) out' a' b' m e o d f =
      let equal : cmp_monomial (monomial_in s.0) (monomial_in t.0) ≡ Equal = cc e in
      let k : Moved l r out' a b = record {
        so_far = merge_equal (map term_in l) (map term_in r) (map term_in out) (monomial_in s.0) (monomial_in t.0) s.1 t.1 (map term_in a) (map term_in b)
            (map term_in out') m.so_far equal o;
      } in
      subst (λ x. Moved l r out' x b') (sym d) (subst (λ y. Moved l r out' a y) (sym f) k)
