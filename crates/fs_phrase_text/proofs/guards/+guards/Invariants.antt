use Rattle.std.proofs.Common.{◌≡◌, ◌<◌, length, ◌+◌, ◌*◌}
use Rattle.fs_model.specs.View.{named_guard}
use Rattle.fs_expression_text.specs.Inside.{ConjunctionContext, GuardContext, parse_expression, at_unit, first_of_all, after_conjunction, at_guard, after_guard}
use Rattle.fs_phrase_text.proofs.guards.+guards.Given as goal

abbrev pub decreases-unit : goal.decreases-unit
decreases-unit l = 7 * length l.tokens.now + 1

abbrev pub decreases-guard_in_braces : goal.decreases-guard_in_braces
decreases-guard_in_braces l = 7 * length l.tokens.now + 5

abbrev pub decreases-and_unit : goal.decreases-and_unit
decreases-and_unit l = 7 * length l.tokens.now

abbrev pub decreases-or_alternative : goal.decreases-or_alternative
decreases-or_alternative l = 7 * length l.tokens.now

abbrev pub decreases-conjunction : goal.decreases-conjunction
decreases-conjunction l = 7 * length l.tokens.now + 2

abbrev pub decreases-alternative : goal.decreases-alternative
decreases-alternative l = 7 * length l.tokens.now + 3

abbrev pub decreases-guard : goal.decreases-guard
decreases-guard l = 7 * length l.tokens.now + 4

abbrev pub invariant-conjunction-each : goal.invariant-conjunction-each
invariant-conjunction-each l =
    ((k : ConjunctionContext) → parse_expression l.tokens (at_unit (first_of_all k)) ≡ parse_expression l.rest (after_conjunction (named_guard l.left) k))
    × (length l.rest < length l.tokens)

abbrev pub decreases-conjunction-each : goal.decreases-conjunction-each
decreases-conjunction-each l = length l.rest

abbrev pub invariant-guard-each : goal.invariant-guard-each
invariant-guard-each l = ((k : GuardContext) → parse_expression l.tokens (at_guard k) ≡ parse_expression l.rest (after_guard (named_guard l.left) k))
    × (length l.rest < length l.tokens)

abbrev pub decreases-guard-each : goal.decreases-guard-each
decreases-guard-each l = length l.rest

abbrev pub decreases-unit_after_bang : goal.decreases-unit_after_bang
decreases-unit_after_bang l = 7 * length l.tokens.now
