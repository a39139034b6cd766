use Rattle.std.proofs.Common.{◌≡◌, Ok, Err, sym, ◌∙◌}
use Rattle.term_condition_text.specs.View.{integer_in, condition_in}
use Rattle.term_condition_text.specs.ConditionTexts.{Compared}
use Rattle.term_text.specs.View.{written_polynomial_in}
use Rattle.term_condition_text.proofs.Whole.{false_spelled, only_false, no_parts, comparison_spelled, read_comparison, refusal_alike}
use Rattle.term_condition_text.proofs.reader.read_condition.Goals as goal

pub returns-then-is_false-clause-found : goal.returns-then-is_false-clause-found
returns-then-is_false-clause-found c = false_spelled c.args.bytes.now (sym c.is_false.ensures ∙ c.if-is_false.true)

pub returns-then-is_false-clause-only : goal.returns-then-is_false-clause-only
returns-then-is_false-clause-only c = only_false c.args.bytes.now (sym c.is_false.ensures ∙ c.if-is_false.true)

pub returns-in-None-clause-only : goal.returns-in-None-clause-only
returns-in-None-clause-only c = no_parts c.args.bytes.now (sym c.is_false.ensures ∙ c.if-is_false.false) (sym c.in-None.ensures)

pub returns-in-Ok-clause-found : goal.returns-in-Ok-clause-found
returns-in-Ok-clause-found c = comparison_spelled c.args.bytes.now c.in-Some.front.now c.in-Some.kind (integer_in c.in-Some.integer) _
    (sym c.in-Some.ensures) c.in-Ok.ensures.found

pub returns-in-Ok-clause-only : goal.returns-in-Ok-clause-only
returns-in-Ok-clause-only c = read_comparison c.args.bytes.now c.in-Some.front.now c.in-Some.kind (integer_in c.in-Some.integer) (Ok c.in-Ok.polynomial)
    (sym c.is_false.ensures ∙ c.if-is_false.false) (sym c.in-Some.ensures) c.in-Ok.ensures.only

pub returns-in-Err-clause-only : goal.returns-in-Err-clause-only
returns-in-Err-clause-only c = λ w s. refusal_alike (λ t. Compared (written_polynomial_in t) c.in-Some.kind (integer_in c.in-Some.integer) ≡ w)
    (λ t. condition_in t ≡ w) c.in-Err.refusal
    (read_comparison c.args.bytes.now c.in-Some.front.now c.in-Some.kind (integer_in c.in-Some.integer) (Err c.in-Err.refusal)
    (sym c.is_false.ensures ∙ c.if-is_false.false) (sym c.in-Some.ensures) c.in-Err.ensures.only w s)
