-- Lists of terms, as polynomials.
use Rattle.std.proofs.Common.{◌≡◌, ℕ, ◌+◌, ℤ, pos, ◌+ℤ◌, Bool, true, false, ◌&&◌, not, List, [], ◌∷◌, ◌++◌, map, arith, refl, ap, sym, ◌∙◌}
use Rattle.std.specs.Ordering.{is_lt, int_eq}
use Rattle.nf_trees.specs.NormalTerms.{Monomial, Polynomial, Zero, Plus, polynomial_of}
use Rattle.nf_trees.specs.View.{term_in}
use Rattle.nf_trees.specs.declared.tree.MonoTree.{MonoTree}
use Rattle.nf_trees.specs.Order.{cmp_monomial}
use Rattle.nf_trees.specs.Measures.{size_of, weight_of}
use Rattle.nf_terms.specs.Normal.{ordered, ordered_monomial}
use Rattle.nf_terms.specs.RawSums.{raw_sum}
use Rattle.nf_sums.specs.OrderedSums.{worth_of, polynomial_fits, fits_monomial}
use Rattle.nf_sums.proofs.Worth.{worth-sum}
use Rattle.nf_sums.proofs.Sorted.{sorted, Sorted}

-- the polynomial of a tree's terms
abbrev pub terms_in : List (MonoTree × ℤ) → Polynomial
terms_in l = polynomial_of (map term_in l)

-- a term that an ordered polynomial may have
abbrev pub good_term : Monomial × ℤ → Bool
good_term t = not (int_eq t.1 (pos 0)) && ordered_monomial t.0

abbrev pub before_term : Monomial × ℤ → Monomial × ℤ → Bool
before_term s t = is_lt (cmp_monomial s.0 t.0)

-- a list of terms in order
pub record Rises (ts : List (Monomial × ℤ)) : Type 0 where
  pub rises : Sorted good_term before_term ts

pub ordered_sorted : (ts : List (Monomial × ℤ)) → ordered (polynomial_of ts) ≡ sorted good_term before_term ts
ordered_sorted [] = refl
ordered_sorted (s ∷ []) = refl
ordered_sorted (s ∷ t ∷ ts) = ap (λ b. good_term s && before_term s t && b) (ordered_sorted (t ∷ ts))

pub rises_of : (ts : List (Monomial × ℤ)) → ordered (polynomial_of ts) ≡ true → Rises ts
rises_of ts e = record { rises = record { holds = sym (ordered_sorted ts) ∙ e } }

pub ordered_of : (ts : List (Monomial × ℤ)) → Rises ts → ordered (polynomial_of ts) ≡ true
ordered_of ts r = ordered_sorted ts ∙ r.rises.holds

pub polynomial_of-append : (ss ts : List (Monomial × ℤ)) → polynomial_of (ss ++ ts) ≡ raw_sum (polynomial_of ss) (polynomial_of ts)
polynomial_of-append [] ts = refl
polynomial_of-append (s ∷ ss) ts = ap (Plus s.0 s.1) (polynomial_of-append ss ts)

pub size-sum : (p q : Polynomial) → size_of (raw_sum p q) ≡ size_of p + size_of q
size-sum Zero q = omega arith
size-sum (Plus m c p) q = omega (arith, size-sum p q)

pub weight-sum : (p q : Polynomial) → weight_of (raw_sum p q) ≡ weight_of p + weight_of q
weight-sum Zero q = omega arith
weight-sum (Plus m c p) q = omega (arith, weight-sum p q)

and_deep : (a b c : Bool) → a && (b && c) ≡ a && b && c
and_deep true b c = refl
and_deep false b c = refl

pub fits-sum : (p q : Polynomial) → polynomial_fits (raw_sum p q) ≡ polynomial_fits p && polynomial_fits q
fits-sum Zero q = refl
fits-sum (Plus m c p) q = ap (λ b. fits_monomial m && b) (fits-sum p q) ∙ and_deep (fits_monomial m) (polynomial_fits p) (polynomial_fits q)

abbrev pub term_worth : (Monomial → ℤ) → List (Monomial × ℤ) → ℤ
term_worth f ts = worth_of f (polynomial_of ts)

abbrev pub term_size : List (Monomial × ℤ) → ℕ
term_size ts = size_of (polynomial_of ts)

abbrev pub term_weight : List (Monomial × ℤ) → ℕ
term_weight ts = weight_of (polynomial_of ts)

abbrev pub terms_fit : List (Monomial × ℤ) → Bool
terms_fit ts = polynomial_fits (polynomial_of ts)

pub term_worth-append : (f : Monomial → ℤ) (ss ts : List (Monomial × ℤ)) → term_worth f (ss ++ ts) ≡ term_worth f ss +ℤ term_worth f ts
term_worth-append f ss ts = ap (worth_of f) (polynomial_of-append ss ts) ∙ worth-sum f (polynomial_of ss) (polynomial_of ts)

pub term_size-append : (ss ts : List (Monomial × ℤ)) → term_size (ss ++ ts) ≡ term_size ss + term_size ts
term_size-append ss ts = ap size_of (polynomial_of-append ss ts) ∙ size-sum (polynomial_of ss) (polynomial_of ts)

pub term_weight-append : (ss ts : List (Monomial × ℤ)) → term_weight (ss ++ ts) ≡ term_weight ss + term_weight ts
term_weight-append ss ts = ap weight_of (polynomial_of-append ss ts) ∙ weight-sum (polynomial_of ss) (polynomial_of ts)

pub terms_fit-append : (ss ts : List (Monomial × ℤ)) → terms_fit (ss ++ ts) ≡ terms_fit ss && terms_fit ts
terms_fit-append ss ts = ap polynomial_fits (polynomial_of-append ss ts) ∙ fits-sum (polynomial_of ss) (polynomial_of ts)
