-- The terms of a tree's list by their places.
use Rattle.std.proofs.Common.{◌≡◌, ℕ, zero, suc, ◌+◌, ◌<◌, ◌≤◌, ℤ, unsigned_abs, List, [], ◌∷◌, map, length, get_or, drop, arith, refl}
use Rattle.std.proofs.Common.{ap, drop-cons, add-one}
use Rattle.nf_trees.specs.NormalTerms.{polynomial_of}
use Rattle.nf_trees.specs.View.{term_in, monomial_in}
use Rattle.nf_trees.specs.Measures.{weight_of}
use Rattle.nf_trees.specs.declared.tree.MonoTree.{MonoTree}

-- what stands at a place and behind it
pub next :
    (l : List (MonoTree × ℤ)) (i : ℕ) (x : MonoTree × ℤ) → i < length l → x ≡ get_or l i x
    → map term_in (drop i l) ≡ (monomial_in x.0, x.1) ∷ map term_in (drop (i + 1) l)
next l i x h e = rw (drop-cons l i x, ← e, add-one) refl

-- each coefficient counts in the weight
pub weight_at :
    (l : List (MonoTree × ℤ)) (i : ℕ) (x : MonoTree × ℤ) → i < length l → x ≡ get_or l i x
    → unsigned_abs x.1 ≤ weight_of (polynomial_of (map term_in l))
weight_at [] i x h e = absurd (omega arith)
weight_at (y ∷ l) zero x h e = let f : unsigned_abs x.1 ≡ unsigned_abs y.1 = ap (λ t. unsigned_abs t.1) e in omega arith
weight_at (y ∷ l) (suc i) x h e = omega (arith, weight_at l i x (omega arith) e)
