-- Raw sums: polynomials whose monomials stand in any order and may be repeated.
use Rattle.std.specs.Prelude.{◌≡◌, ℕ, ◌+◌, ◌==◌, ℤ, pos, ◌+ℤ◌, ◌*ℤ◌, neg_ℤ, Bool, true, ◌&&◌, cond}
use Rattle.nf_trees.specs.NormalTerms.{Atom, Monomial, Polynomial, One, Times, Zero, Plus}
use Rattle.nf_trees.specs.Order.{same_atom}
use Rattle.nf_terms.specs.Normal.{IsNormal}

-- the one list after the other
abbrev pub raw_sum : Polynomial → Polynomial → Polynomial
raw_sum Zero q = q
raw_sum (Plus m c p) q = Plus m c (raw_sum p q)

-- each coefficient negated
abbrev pub raw_negation : Polynomial → Polynomial
raw_negation Zero = Zero
raw_negation (Plus m c p) = Plus m (neg_ℤ c) (raw_negation p)

-- the sum with the negation
abbrev pub raw_difference : Polynomial → Polynomial → Polynomial
raw_difference p q = raw_sum p (raw_negation q)

-- the atoms of both
abbrev pub monomial_product : Monomial → Monomial → Monomial
monomial_product One n = n
monomial_product (Times a m) n = Times a (monomial_product m n)

-- one monomial with its coefficient times each of a polynomial
abbrev pub raw_multiple : Monomial → ℤ → Polynomial → Polynomial
raw_multiple m c Zero = Zero
raw_multiple m c (Plus n d q) = Plus (monomial_product m n) (c *ℤ d) (raw_multiple m c q)

-- all pairwise products
abbrev pub raw_product : Polynomial → Polynomial → Polynomial
raw_product Zero q = Zero
raw_product (Plus m c p) q = raw_sum (raw_multiple m c q) (raw_product p q)

-- how often an atom stands in a monomial
abbrev pub occurrences : Atom → Monomial → ℕ
occurrences a One = 0
occurrences a (Times b m) = cond (same_atom a b) 1 0 + occurrences a m

-- whether each atom of the first stands as often in the second as in the third
abbrev pub as_often : Monomial → Monomial → Monomial → Bool
as_often One m n = true
as_often (Times a k) m n = (occurrences a m == occurrences a n) && as_often k m n

-- whether two monomials have the same atoms, each as often
abbrev pub same_bag : Monomial → Monomial → Bool
same_bag m n = as_often m m n && as_often n m n

-- the total coefficient of a bag of atoms
abbrev pub total : Monomial → Polynomial → ℤ
total bag Zero = pos 0
total bag (Plus m c p) = cond (same_bag bag m) c (pos 0) +ℤ total bag p

-- every bag of atoms has the same total coefficient in both, where equal atoms count as one
pub record SameTotals (p q : Polynomial) : Type 0 where
  pub totals : (bag : Monomial) → total bag p ≡ total bag q

-- a normal polynomial with the totals of a raw sum
pub record IsNormalFormOf (p raw : Polynomial) : Type 0 where
  pub normal : IsNormal p
  pub same : SameTotals p raw
