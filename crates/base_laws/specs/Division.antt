-- Division of integers that is total.
use Rattle.std.specs.Prelude.{ℤ, pos, cond, int_div, int_rem}
use Rattle.std.specs.Ordering.{int_eq}

-- the quotient, truncated toward zero, and 0 where the divisor is 0
abbrev pub quotient : ℤ → ℤ → ℤ
quotient a b = cond (int_eq b (pos 0)) (pos 0) (int_div a b)

-- what the quotient leaves, with the sign of the dividend, and 0 where the divisor is 0
abbrev pub remainder : ℤ → ℤ → ℤ
remainder a b = cond (int_eq b (pos 0)) (pos 0) (int_rem a b)
