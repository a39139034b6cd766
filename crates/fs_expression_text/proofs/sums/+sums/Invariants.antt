use Rattle.std.proofs.Common.{◌≡◌, ◌<◌, length, ◌+◌, ◌*◌}
use Rattle.fs_model.specs.View.{named_expression}
use Rattle.fs_expression_text.specs.Inside.{SumContext, ProductContext, parse_expression, at_factor, at_sum, after_sum, after_product, first_factor}
use Rattle.fs_expression_text.proofs.sums.+sums.Given as goal

abbrev pub decreases-factor : goal.decreases-factor
decreases-factor l = 6 * length l.tokens.now + 1

abbrev pub decreases-variable : goal.decreases-variable
decreases-variable l = 6 * length l.tokens.now

abbrev pub decreases-element_after_bracket : goal.decreases-element_after_bracket
decreases-element_after_bracket l = 6 * length l.tokens.now + 5

abbrev pub decreases-product : goal.decreases-product
decreases-product l = 6 * length l.tokens.now + 2

abbrev pub decreases-operand : goal.decreases-operand
decreases-operand l = 6 * length l.tokens.now + 3

abbrev pub decreases-sum : goal.decreases-sum
decreases-sum l = 6 * length l.tokens.now + 4

abbrev pub invariant-sum-each : goal.invariant-sum-each
invariant-sum-each l = ((k : SumContext) → parse_expression l.tokens (at_sum k) ≡ parse_expression l.rest (after_sum (named_expression l.left) k))
    × (length l.rest < length l.tokens)

abbrev pub decreases-sum-each : goal.decreases-sum-each
decreases-sum-each l = length l.rest

abbrev pub invariant-product-each : goal.invariant-product-each
invariant-product-each l =
    ((k : ProductContext) → parse_expression l.tokens (at_factor (first_factor k)) ≡ parse_expression l.rest (after_product (named_expression l.left) k))
    × (length l.rest < length l.tokens)

abbrev pub decreases-product-each : goal.decreases-product-each
decreases-product-each l = length l.rest

abbrev pub decreases-further_factor : goal.decreases-further_factor
decreases-further_factor l = 6 * length l.tokens.now

abbrev pub decreases-further_operand : goal.decreases-further_operand
decreases-further_operand l = 6 * length l.tokens.now

abbrev pub decreases-factor_after_minus : goal.decreases-factor_after_minus
decreases-factor_after_minus l = 6 * length l.tokens.now

abbrev pub decreases-sum_in_parentheses : goal.decreases-sum_in_parentheses
decreases-sum_in_parentheses l = 6 * length l.tokens.now
