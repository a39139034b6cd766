use Rattle.std.proofs.Common.{◌≡◌, length, map}
use Rattle.term_text.specs.Machine.{term_reading, after_list}
use Rattle.term_text.specs.View.{list_base_in, written_polynomial_in, pushed_all}
use Rattle.term_condition_text.proofs.whole_terms.items.Given as goal

abbrev pub invariant-loop-after : goal.invariant-loop-after
invariant-loop-after l = term_reading l.bytes (after_list (list_base_in l.base))
    ≡ term_reading l.rest (after_list (pushed_all (list_base_in l.base) (map written_polynomial_in l.items.items)))

abbrev pub decreases-loop-after : goal.decreases-loop-after
decreases-loop-after l = length l.rest
