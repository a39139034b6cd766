-- The written condition that a value of the code holds.
use Rattle.term_condition_text.specs.declared.condition.WrittenInteger.{WrittenInteger}
use Rattle.term_condition_text.specs.declared.condition.WrittenInteger.TheVariants as integers
use Rattle.term_condition_text.specs.declared.condition.WrittenCondition.{WrittenCondition}
use Rattle.term_condition_text.specs.declared.condition.WrittenCondition.TheVariants as conditions
use Rattle.term_text.specs.View.{written_polynomial_in}
use Rattle.term_condition_text.specs.ConditionTexts.{Integer, ZeroInteger, Positive, Negative, Condition, False, Compared}

abbrev pub integer_in : WrittenInteger → Integer
integer_in integers.Zero = ZeroInteger
integer_in (integers.Positive ds) = Positive ds.now
integer_in (integers.Negative ds) = Negative ds.now

abbrev pub condition_in : WrittenCondition → Condition
condition_in conditions.False = False
condition_in (conditions.Compared p k i) = Compared (written_polynomial_in p) k (integer_in i)
