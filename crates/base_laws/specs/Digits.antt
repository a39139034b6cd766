-- Numbers by their decimal digits.
use Rattle.std.specs.Prelude.{ℕ, ◌*◌, ◌+◌, ◌-◌, List}
use Rattle.std.specs.List.{fold}

-- a number with one digit more
abbrev pub with_digit : ℕ → ℕ → ℕ
with_digit n b = 10 * n + (b - 48)

-- the number that digits spell
abbrev pub value_of_digits : List ℕ → ℕ
value_of_digits bs = fold with_digit 0 bs
