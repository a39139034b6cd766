-- Generated machines have the same inputs and outputs.
use Rattle.std.proofs.Common.{◌≡◌, ℕ, refl}
use Rattle.std.specs.Prelude.{None}
use Rattle.fs_pair.specs.Interfaces.{interface_fault}
use Rattle.fsmd_answers.specs.ComparisonAnswers.{left_of, right_of}

pub loops_alike : (n : ℕ) → interface_fault (left_of n) (right_of n) ≡ None
loops_alike n = refl
