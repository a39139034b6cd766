-- The literal that a written condition stands for, and a test of its numbers and names.
use Rattle.std.specs.Prelude.{ℕ, ℤ, pos, neg_ℤ, Bool, true, ◌&&◌, List}
use Rattle.nf_rel.specs.Literals as literals
use Rattle.nf_rel.specs.Literals.{NormalLiteral}
use Rattle.term_condition_text.specs.ConditionTexts.{Integer, ZeroInteger, Positive, Negative, Condition, False, Compared}
use Rattle.term_values.specs.TermValues.{Interpretation, polynomial_value}
use Rattle.term_values.specs.Checks.{Test, polynomial_passes}

abbrev pub integer_value : (List ℕ → ℕ) → Integer → ℤ
integer_value number ZeroInteger = pos 0
integer_value number (Positive ds) = pos (number ds)
integer_value number (Negative ds) = neg_ℤ (pos (number ds))

abbrev pub condition_value : Interpretation → Condition → NormalLiteral
condition_value r False = literals.False
condition_value r (Compared p k i) = literals.Is (polynomial_value r p) k (integer_value r.number i)

abbrev pub integer_passes : Test → Integer → Bool
integer_passes t ZeroInteger = true
integer_passes t (Positive ds) = t.number ds
integer_passes t (Negative ds) = t.number ds

abbrev pub written_condition_passes : Test → Condition → Bool
written_condition_passes t False = true
written_condition_passes t (Compared p k i) = polynomial_passes t p && integer_passes t i
