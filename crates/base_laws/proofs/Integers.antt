-- Integers, their tests and their absolute values.
use Rattle.std.proofs.Common.{◌≡◌, ◌≢◌, ℕ, ◌+◌, ◌≤◌, true, false, ℤ, pos, negsuc, ◌+ℤ◌, ◌*ℤ◌, ◌≤ℤ◌, neg_ℤ, unsigned_abs, int_eq, int_lt, sym, ◌∙◌, arith}
use Rattle.std.proofs.lemmas.Int.{ints}
use Rattle.std.proofs.lemmas.Bool.Decides.{Decides-int_eq}

pub int_eq-true : (a b : ℤ) → int_eq a b ≡ true → a ≡ b
int_eq-true a b e = (Decides-int_eq a b).0 e

pub int_eq_zero-false : (b : ℤ) → b ≢ pos 0 → int_eq b (pos 0) ≡ false
int_eq_zero-false b h = grind (arith, h)

pub not_zero : (c : ℤ) → int_eq c (pos 0) ≡ false → c ≢ pos 0
not_zero c f e = let t : int_eq c (pos 0) ≡ true = (Decides-int_eq c (pos 0)).1 e in let g : true ≡ false = sym t ∙ f in cc

pub int_lt-turned : (x y : ℤ) → int_lt x y ≡ true → int_lt y x ≡ false
int_lt-turned x y e = grind (arith, ints)

pub unsigned_abs-add : (c d : ℤ) → unsigned_abs (c +ℤ d) ≤ unsigned_abs c + unsigned_abs d
unsigned_abs-add c d = omega (arith, ints)

pub unsigned_abs-neg : (c : ℤ) → unsigned_abs (neg_ℤ c) ≡ unsigned_abs c
unsigned_abs-neg c = omega (arith, ints)

pub times_natural : (g : ℕ) (k : ℤ) → pos 0 ≤ℤ k → pos 0 ≤ℤ (pos g *ℤ k)
times_natural g (pos n) h = omega (arith, ints)
times_natural g (negsuc n) h = absurd (omega (arith, ints))
