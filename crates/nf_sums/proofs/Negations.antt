-- The negation of a list of terms, on its way.
use Rattle.std.proofs.Common.{◌≡◌, ℕ, ◌≤◌, ℤ, neg_ℤ, List, [], ◌∷◌, ◌++◌, map, length, drop, refl, ap, sym, subst, ◌∙◌}
use Rattle.std.proofs.lemmas.List.{drop_all, append-nil}
use Rattle.nf_trees.specs.NormalTerms.{Monomial, polynomial_of, Plus}
use Rattle.nf_trees.specs.View.{term_in, monomial_in}
use Rattle.nf_terms.specs.RawSums.{raw_negation}
use Rattle.nf_trees.specs.declared.tree.MonoTree.{MonoTree}

-- a term with the negation of its coefficient
abbrev pub opposite : MonoTree × ℤ → Monomial × ℤ
opposite t = (monomial_in t.0, neg_ℤ t.1)

pub negation_of : (l : List (MonoTree × ℤ)) → polynomial_of (map opposite l) ≡ raw_negation (polynomial_of (map term_in l))
negation_of [] = refl
negation_of (t ∷ l) = ap (Plus (monomial_in t.0) (neg_ℤ t.1)) (negation_of l)

pub negated_all : (l out : List (MonoTree × ℤ)) (i : ℕ) → map term_in out ++ map opposite (drop i l) ≡ map opposite l → length l ≤ i
    → polynomial_of (map term_in out) ≡ raw_negation (polynomial_of (map term_in l))
negated_all l out i e h =
    let f : map term_in out ++ [] ≡ map opposite l = subst (λ d. map term_in out ++ map opposite d ≡ map opposite l) (drop_all i l h) e in
    ap polynomial_of (sym (append-nil (map term_in out)) ∙ f) ∙ negation_of l
