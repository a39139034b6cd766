use Rattle.std.proofs.Common.{sym, ◌∙◌}
use Rattle.term_text.specs.Machine.{at_polynomial, whole_polynomial}
use Rattle.term_text.specs.TermTexts.{polynomial}
use Rattle.term_text.specs.View.{written_polynomial_in}
use Rattle.term_condition_text.proofs.Again.{again, found, polynomial_made}
use Rattle.term_text.proofs.Sound.{polynomial_is_spelled}
use Rattle.term_text.proofs.Walks.{read_again}
use Rattle.term_condition_text.proofs.whole_terms.read_polynomial.Goals as goal

pub returns-clause-found : goal.returns-clause-found
returns-clause-found c = found (at_polynomial whole_polynomial) (λ t. polynomial (written_polynomial_in t)) c.whole_polynomial.result c.args.bytes.now
    (polynomial_is_spelled c.args.bytes.now) (sym c.is_shallow.ensures ∙ c.if-not-is_shallow.false) c.whole_polynomial.ensures

pub returns-clause-only : goal.returns-clause-only
returns-clause-only c = λ t h. polynomial_made written_polynomial_in c.whole_polynomial.result t
    (again (at_polynomial whole_polynomial) (λ x. polynomial (written_polynomial_in x)) c.whole_polynomial.result c.args.bytes.now (polynomial t)
    (read_again (polynomial t) h.spelled) c.whole_polynomial.ensures h)
