-- Numbers and their tests.
use Rattle.std.proofs.Common.{◌≡◌, ◌==◌, ℕ, suc, ◌+◌, ◌<◌, true, refl, arith}
use Rattle.std.proofs.lemmas.Bool.{eq-eqb}
use Rattle.std.proofs.lemmas.Bool.Decides.{nat_tests}

pub eqb_self : (n : ℕ) → (n == n) ≡ true
eqb_self n = eq-eqb n n refl

pub eqb_suc : (m n : ℕ) → (m == n) ≡ (suc m == suc n)
eqb_suc m n = grind (arith, nat_tests)

pub plus_suc : (m n : ℕ) → m + suc n ≡ m + 1 + n
plus_suc m n = omega arith

pub below_suc : (m n : ℕ) → suc m < suc n → m < n
below_suc m n h = omega (arith, h)
