use Rattle.std.proofs.Common.{◌≡◌, ◌++◌, drop}
use Rattle.std.specs.Prelude.{map}
use Rattle.std.specs.Fmt.{signed_decimal}
use Rattle.fs_run_text.proofs.shown.number_texts.Given as goal

abbrev pub invariant-loop-number : goal.invariant-loop-number
invariant-loop-number l = map (λ t. t.items) l.texts.items ++ map signed_decimal (drop l.number-index l.numbers) ≡ map signed_decimal l.numbers
