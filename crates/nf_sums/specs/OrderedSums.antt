-- Ordered polynomials that are sums and products.
use Rattle.std.specs.Prelude.{◌≡◌, ◌+◌, ◌*◌, ◌≤◌, ℤ, pos, ◌+ℤ◌, ◌*ℤ◌, Bool, true, ◌&&◌, cond, nat_le, IsTrue, List, [], ◌∷◌}
use Rattle.std.specs.Prelude.{Option, Some, None}
use Rattle.std.specs.declared.cmp.Ordering.{Ordering}
use Rattle.std.specs.declared.cmp.Ordering.TheVariants.{Less, Greater}
use Rattle.std.specs.Ordering.{int_eq}
use Rattle.nf_trees.specs.NormalTerms.{Atom, Monomial, Polynomial, One, Times, Zero, Plus}
use Rattle.nf_trees.specs.Order.{cmp_monomial}
use Rattle.nf_trees.specs.Measures.{size_of, weight_of, depth_of_atom}
use Rattle.nf_terms.specs.TermLimits.{depth_limit}
use Rattle.nf_terms.specs.Normal.{ordered, ordered_monomial, narrow_atom}
use Rattle.nf_terms.specs.RawSums.{monomial_product, raw_product}

-- what a polynomial is worth where f says what each monomial is worth
abbrev pub worth_of : (Monomial → ℤ) → Polynomial → ℤ
worth_of f Zero = pos 0
worth_of f (Plus m c p) = c *ℤ f m +ℤ worth_of f p

-- f gives the same where two neighbouring atoms change places
pub record IgnoresOrder (f : Monomial → ℤ) : Type 0 where
  pub swapped : (k : Monomial) (a b : Atom) (m : Monomial)
      → f (monomial_product k (Times a (Times b m))) ≡ f (monomial_product k (Times b (Times a m)))

-- whether what is inside an atom is within the limits of weight and depth
abbrev pub fits_atom : Atom → Bool
fits_atom a = narrow_atom a && nat_le (depth_of_atom a) depth_limit

-- the same of each atom of a monomial
abbrev pub fits_monomial : Monomial → Bool
fits_monomial One = true
fits_monomial (Times a m) = fits_atom a && fits_monomial m

-- the same of each monomial of a polynomial
abbrev pub polynomial_fits : Polynomial → Bool
polynomial_fits Zero = true
polynomial_fits (Plus m c p) = fits_monomial m && polynomial_fits p

-- m is in order, with the atoms of l and r
pub record IsOrderedJoin (l r m : Monomial) : Type 0 where
  pub in_order : IsTrue (ordered_monomial m)
  pub same : (f : Monomial → ℤ) → IgnoresOrder f → f m ≡ f (monomial_product l r)

-- p is in order, worth what l and r are together, and no larger
pub record IsOrderedSum (l r p : Polynomial) : Type 0 where
  pub in_order : IsTrue (ordered p)
  pub worth : (f : Monomial → ℤ) → worth_of f p ≡ worth_of f l +ℤ worth_of f r
  pub size : size_of p ≤ size_of l + size_of r
  pub weight : weight_of p ≤ weight_of l + weight_of r
  pub inside : IsTrue (polynomial_fits l) → IsTrue (polynomial_fits r) → IsTrue (polynomial_fits p)

-- p is in order, worth what the product of l and r is, and no larger
pub record IsOrderedProduct (l r p : Polynomial) : Type 0 where
  pub in_order : IsTrue (ordered p)
  pub worth : (f : Monomial → ℤ) → IgnoresOrder f → worth_of f p ≡ worth_of f (raw_product l r)
  pub size : size_of p ≤ size_of l * size_of r
  pub weight : weight_of p ≤ weight_of l * weight_of r
  pub inside : IsTrue (polynomial_fits l) → IsTrue (polynomial_fits r) → IsTrue (polynomial_fits p)

-- a monomial with its coefficient, or nothing where that is 0
abbrev pub term_unless_zero : Monomial → ℤ → List (Monomial × ℤ)
term_unless_zero m c = cond (int_eq c (pos 0)) [] ((m, c) ∷ [])

-- how the first monomials of two polynomials stand; a polynomial without one stands behind, and two such have no order
abbrev pub first_order : Polynomial → Polynomial → Option Ordering
first_order Zero Zero = None
first_order Zero (Plus n d q) = Some Greater
first_order (Plus m c p) Zero = Some Less
first_order (Plus m c p) (Plus n d q) = Some (cmp_monomial m n)

-- the first monomials of two polynomials, which are the same, with their coefficients together
abbrev pub joined_firsts : Polynomial → Polynomial → List (Monomial × ℤ)
joined_firsts Zero q = []
joined_firsts (Plus m c p) Zero = []
joined_firsts (Plus m c p) (Plus n d q) = term_unless_zero m (c +ℤ d)
