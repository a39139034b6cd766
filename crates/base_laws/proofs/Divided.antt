-- Quotients and remainders by a divisor that is not 0, and the sign of a remainder.
use Rattle.std.proofs.Common.{◌≡◌, zero, suc, ℤ, pos, negsuc, ◌+ℤ◌, ◌*ℤ◌, arith, refl, sym, subst, ap, ap₂, ◌∙◌}
use Rattle.std.specs.Prelude.{◌≢◌, ◌<◌, ◌≤ℤ◌, Bool, true, false, cond, unsigned_abs, int_div, int_rem}
use Rattle.std.specs.Ordering.{int_eq}
use Rattle.std.proofs.lemmas.Int.{ints, quot-rem, rem_below}
use Rattle.base_laws.proofs.Integers.{int_eq_zero-false}
use Rattle.base_laws.specs.Division.{quotient, remainder}

quotient_is : (a b : ℤ) → b ≢ pos 0 → quotient a b ≡ int_div a b
quotient_is a b h = ap (λ t. cond t (pos 0) (int_div a b)) (int_eq_zero-false b h)

remainder_is : (a b : ℤ) → b ≢ pos 0 → remainder a b ≡ int_rem a b
remainder_is a b h = ap (λ t. cond t (pos 0) (int_rem a b)) (int_eq_zero-false b h)

some_below : (b : ℤ) → b ≢ pos 0 → 0 < unsigned_abs b
some_below (pos zero) h = absurd (h refl)
some_below (pos (suc n)) h = omega arith
some_below (negsuc n) h = omega arith

pub made : (a b : ℤ) → b ≢ pos 0 → quotient a b *ℤ b +ℤ remainder a b ≡ a
made a b h = ap₂ (λ q r. q *ℤ b +ℤ r) (quotient_is a b h) (remainder_is a b h) ∙ quot-rem a b

pub smaller : (a b : ℤ) → b ≢ pos 0 → unsigned_abs (remainder a b) < unsigned_abs b
smaller a b h = subst (λ r. unsigned_abs r < unsigned_abs b) (sym (remainder_is a b h)) (rem_below a b (some_below b h))

zero_above : (t : Bool) (r : ℤ) → pos 0 ≤ℤ r → pos 0 ≤ℤ cond t (pos 0) r
zero_above true r h = omega (arith, ints)
zero_above false r h = h

zero_below : (t : Bool) (r : ℤ) → r ≤ℤ pos 0 → cond t (pos 0) r ≤ℤ pos 0
zero_below true r h = omega (arith, ints)
zero_below false r h = h

rem_above : (a b : ℤ) → pos 0 ≤ℤ a → pos 0 ≤ℤ int_rem a b
rem_above (pos m) b h = omega (arith, ints)
rem_above (negsuc m) b h = absurd (omega (arith, ints, h))

rem_at_most : (a b : ℤ) → a ≤ℤ pos 0 → int_rem a b ≤ℤ pos 0
rem_at_most (pos zero) b h = omega (arith, ints)
rem_at_most (pos (suc m)) b h = absurd (omega (arith, ints, h))
rem_at_most (negsuc m) b h = omega (arith, ints)

pub above : (a b : ℤ) → pos 0 ≤ℤ a → pos 0 ≤ℤ remainder a b
above a b h = zero_above (int_eq b (pos 0)) (int_rem a b) (rem_above a b h)

pub below : (a b : ℤ) → a ≤ℤ pos 0 → remainder a b ≤ℤ pos 0
below a b h = zero_below (int_eq b (pos 0)) (int_rem a b) (rem_at_most a b h)
