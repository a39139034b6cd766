-- The number that digits spell.
use Rattle.std.specs.Prelude.{ℕ, min, List}
use Rattle.fs_model.specs.Digits.{value_of_digits}
use Rattle.nf_terms.specs.TermLimits.{weight_limit}

-- the same, and the limit where it is greater
abbrev pub clipped_number : List ℕ → ℕ
clipped_number digits = min (value_of_digits digits) weight_limit
