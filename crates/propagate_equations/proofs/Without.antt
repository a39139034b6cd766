-- A sum without one of its terms.
use Rattle.std.proofs.Common.{◌≡◌, ℕ, zero, suc, ◌+◌, ◌-◌, ◌<◌, ℤ, true, ap, sym, subst, ◌∙◌, arith, List, [], ◌∷◌, ◌++◌, length, map, take, drop}
use Rattle.std.proofs.lemmas.List.{length-drop}
use Rattle.std.proofs.Math.Seq.{take-length}
use Rattle.fs_model.proofs.Integers.{not_zero}
use Rattle.nf_trees.specs.NormalTerms.{polynomial_of}
use Rattle.nf_terms.specs.Normal.{IsNormal, ordered}
use Rattle.nf_terms.specs.Reduced.{Reduces, Ended, Dropped, Kept}
use Rattle.nf_trees.specs.View.{monomial_in, term_in}
use Rattle.nf_trees.specs.declared.tree.MonoTree.{MonoTree}
use Rattle.nf_sums.proofs.Partings.{ordered_term}
use Rattle.nf_sums.proofs.Reducing.{reduced_normal}

all_kept : (ts : List (MonoTree × ℤ)) → ordered (polynomial_of (map term_in ts)) ≡ true
    → Reduces (polynomial_of (map term_in ts)) (polynomial_of (map term_in ts))
all_kept [] o = Ended
all_kept (t ∷ ts) o = let n = ordered_term (monomial_in t.0) t.1 (polynomial_of (map term_in ts)) o in
    Kept (not_zero t.1 n.nonzero) (omega arith) (all_kept ts n.rest)

one_dropped : (k : ℕ) (ts : List (MonoTree × ℤ)) → k < length ts → ordered (polynomial_of (map term_in ts)) ≡ true
    → Reduces (polynomial_of (map term_in ts)) (polynomial_of (map term_in (take k ts) ++ map term_in (drop (k + 1) ts)))
one_dropped k [] h o = absurd (omega (arith, h))
one_dropped zero (t ∷ ts) h o = let n = ordered_term (monomial_in t.0) t.1 (polynomial_of (map term_in ts)) o in Dropped (all_kept ts n.rest)
one_dropped (suc k) (t ∷ ts) h o =
    let n = ordered_term (monomial_in t.0) t.1 (polynomial_of (map term_in ts)) o in
    let e : suc (k + 1) ≡ suc k + 1 = omega arith in
    subst (λ j. Reduces (polynomial_of (map term_in (t ∷ ts))) (polynomial_of (map term_in (t ∷ take k ts) ++ map term_in (drop j (t ∷ ts))))) e
    (Kept (not_zero t.1 n.nonzero) (omega arith) (one_dropped k ts (omega (arith, h)) n.rest))

pub rest_normal : (k : ℕ) (ts : List (MonoTree × ℤ)) → k < length ts → IsNormal (polynomial_of (map term_in ts))
    → IsNormal (polynomial_of (map term_in (take k ts) ++ map term_in (drop (k + 1) ts)))
rest_normal k ts h n = reduced_normal (polynomial_of (map term_in ts)) (polynomial_of (map term_in (take k ts) ++ map term_in (drop (k + 1) ts))) n
    (one_dropped k ts h n.ordered)

-- two ranges that are written behind each other
pub without_place : {A B : Type 0} (f : A → B) (k : ℕ) (xs : List A) {none : List A} {front all : List B} → none ≡ [] → front ≡ map f none ++ map f (take k xs)
    → all ≡ front ++ map f (take (length xs - (k + 1)) (drop (k + 1) xs)) → all ≡ map f (take k xs) ++ map f (drop (k + 1) xs)
without_place f k xs a b c =
    let rest : take (length xs - (k + 1)) (drop (k + 1) xs) ≡ drop (k + 1) xs = ap (λ n. take n (drop (k + 1) xs)) (sym (length-drop (k + 1) xs))
    ∙ take-length (drop (k + 1) xs) in
    c ∙ ap (λ ys. ys ++ map f (take (length xs - (k + 1)) (drop (k + 1) xs))) (b ∙ ap (λ ys. map f ys ++ map f (take k xs)) a)
    ∙ ap (λ ys. map f (take k xs) ++ map f ys) rest
