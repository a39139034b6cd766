-- Sums with fewer monomials, or with other coefficients that are no larger.
use Rattle.std.specs.Prelude.{◌≢◌, ◌≤◌, ℤ, pos, unsigned_abs}
use Rattle.nf_trees.specs.NormalTerms.{Monomial, Polynomial, Zero, Plus}

-- the second has some of the first one's monomials in their order, with coefficients that are not 0 and no larger in absolute
-- value
pub data Reduces : Polynomial → Polynomial → Type 0 where
  Ended : Reduces Zero Zero
  Dropped : {m : Monomial} {c : ℤ} {p q : Polynomial} → Reduces p q → Reduces (Plus m c p) q
  Kept : {m : Monomial} {c d : ℤ} {p q : Polynomial} → d ≢ pos 0 → unsigned_abs d ≤ unsigned_abs c → Reduces p q
      → Reduces (Plus m c p) (Plus m d q)
