use Rattle.term_text.specs.Machine.{value, item, after_array, after_list}
use Rattle.term_text.specs.TermTexts.{Written, Pushed}
use Rattle.term_text.proofs.Steps.{closes_value, closes_item}
use Rattle.term_text.proofs.terms.value_in_braces.Goals as goal

pub returns-clause-write : goal.returns-clause-write
returns-clause-write c = λ a i k. c.close.ensures.goes _ (value a i k) (λ p. after_array (Written a i p) k) (closes_value a i k)
    (c.polynomial.ensures.goes (value a i k))

pub returns-clause-item : goal.returns-clause-item
returns-clause-item c = λ l. c.close.ensures.goes _ (item l) (λ p. after_list (Pushed l p)) (closes_item l) (c.polynomial.ensures.goes (item l))

pub returns-clause-shorter : goal.returns-clause-shorter
returns-clause-shorter c = c.close.ensures.shorter _ c.polynomial.ensures.shorter
