-- Sums that grow: where a monomial has its place, and what is known of the sum.
use Rattle.std.specs.Prelude.{◌≡◌, ℕ, ℤ, pos, ◌+ℤ◌, Bool, true, false, ◌&&◌, not}
use Rattle.std.specs.Ordering.{is_lt, is_eq}
use Rattle.nf_trees.specs.NormalTerms.{Monomial, Polynomial, Zero, Plus}
use Rattle.nf_trees.specs.Order.{cmp_monomial}
use Rattle.nf_trees.specs.Measures.{size_of, weight_of}
use Rattle.nf_terms.specs.Normal.{IsNormal}
use Rattle.nf_sums.specs.RawSumForms.{plus}

-- whether each monomial stands before m
abbrev pub stand_before : Monomial → Polynomial → Bool
stand_before m Zero = true
stand_before m (Plus n d p) = is_lt (cmp_monomial n m) && stand_before m p

-- whether the first monomial, if there is one, does not stand before m
abbrev pub begins_behind : Monomial → Polynomial → Bool
begins_behind m Zero = true
begins_behind m (Plus n d p) = not (is_lt (cmp_monomial n m))

-- whether m is the first monomial
abbrev pub begins_with : Monomial → Polynomial → Bool
begins_with m Zero = false
begins_with m (Plus n d p) = is_eq (cmp_monomial m n)

-- the first coefficient
abbrev pub coefficient_of : Polynomial → ℤ
coefficient_of Zero = pos 0
coefficient_of (Plus n d p) = d

-- another first coefficient; the monomial goes where it is 0
abbrev pub with_first : ℤ → Polynomial → Polynomial
with_first c Zero = Zero
with_first c (Plus n d p) = plus n c p

-- a coefficient more for the first monomial
abbrev pub with_more : ℤ → Polynomial → Polynomial
with_more c p = with_first (c +ℤ coefficient_of p) p

-- a normal polynomial with its size and its weight
pub record IsMeasured (p : Polynomial) (size weight : ℕ) : Type 0 where
  pub normal : IsNormal p
  pub has_size : size ≡ size_of p
  pub has_weight : weight ≡ weight_of p
