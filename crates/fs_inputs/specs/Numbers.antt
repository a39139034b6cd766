-- Numbers as input files spell them.
use Rattle.std.specs.Prelude.{ℕ, ◌^◌, ◌==◌, ◌&&◌, ◌||◌, nat_lt, Bool, false, not, cond, ℤ, pos, negsuc, neg_ℤ}
use Rattle.std.specs.Prelude.{List, [], ◌∷◌, Option, Some, None, codes}
use Rattle.std.specs.List.{list_all}
use Rattle.std.specs.Str.{bytes_eq}
use Rattle.fs_model.specs.Digits.{value_of_digits}
use Rattle.fs_model.specs.Words.{is_digit}
use Rattle.fs_inputs.specs.declared.numbers.Reading.{Reading}
use Rattle.fs_inputs.specs.declared.numbers.Reading.TheVariants.{NoNumber, TooBig, Number}

-- decimal digits of which the first is not 0
abbrev pub is_positive : List ℕ → Bool
is_positive [] = false
is_positive (b ∷ bytes) = is_digit b && not (b == 48) && list_all is_digit bytes

-- decimal digits without a needless zero
abbrev pub is_natural : List ℕ → Bool
is_natural bytes = is_positive bytes || bytes_eq bytes (codes "0")

-- the number that a text spells: digits without a needless zero, or a `-` before such digits of a number above 0
abbrev pub number_in : List ℕ → Option ℤ
number_in [] = None
number_in (b ∷ bytes) =
    cond (b == 45) (cond (is_positive bytes) (Some (neg_ℤ (pos (value_of_digits bytes)))) None)
    (cond (is_natural (b ∷ bytes)) (Some (pos (value_of_digits (b ∷ bytes)))) None)

-- a number of 128 bits: from -2^127 to 2^127 - 1
abbrev pub fits : ℤ → Bool
fits (pos n) = nat_lt n (2 ^ 127)
fits (negsuc n) = nat_lt n (2 ^ 127)

-- what is read where this number is spelled, or none is
abbrev pub number_reading : Option ℤ → Reading
number_reading None = NoNumber
number_reading (Some z) = cond (fits z) (Number z) TooBig
