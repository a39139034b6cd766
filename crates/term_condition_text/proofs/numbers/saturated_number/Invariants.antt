use Rattle.std.proofs.Common.{◌≡◌, ◌-◌, ◌^◌, ◌<◌, min, drop}
use Rattle.std.specs.List.{fold}
use Rattle.fs_model.specs.Digits.{with_digit, value_of_digits}
use Rattle.term_condition_text.proofs.numbers.saturated_number.Given as goal

abbrev pub invariant-loop-digit : goal.invariant-loop-digit
invariant-loop-digit l = (min (fold with_digit l.number (drop l.digit-index l.digits)) (2 ^ 128 - 1) ≡ min (value_of_digits l.digits) (2 ^ 128 - 1))
    × (l.number < 2 ^ 128)
