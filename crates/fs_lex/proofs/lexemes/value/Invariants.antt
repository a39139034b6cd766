use Rattle.std.proofs.Common.{◌≡◌, ◌<◌, ◌^◌, drop}
use Rattle.std.specs.List.{fold}
use Rattle.fs_model.specs.Digits.{value_of_digits, with_digit}
use Rattle.fs_lex.proofs.lexemes.value.Given as goal

abbrev pub invariant-loop-b : goal.invariant-loop-b
invariant-loop-b l = (l.n < 2 ^ 127) × (fold with_digit l.n (drop l.b-index l.bytes) ≡ value_of_digits l.bytes)
