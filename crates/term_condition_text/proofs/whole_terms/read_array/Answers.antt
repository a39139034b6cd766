use Rattle.std.proofs.Common.{sym, ◌∙◌}
use Rattle.term_text.specs.Machine.{at_array}
use Rattle.term_text.specs.TermTexts.{array}
use Rattle.term_text.specs.View.{written_array_in}
use Rattle.term_condition_text.proofs.Again.{again, found, array_made}
use Rattle.term_text.proofs.Sound.{array_is_spelled}
use Rattle.term_text.proofs.Walks.{read_again}
use Rattle.term_condition_text.proofs.whole_terms.read_array.Goals as goal

pub returns-clause-found : goal.returns-clause-found
returns-clause-found c = found at_array (λ t. array (written_array_in t)) c.whole_array.result c.args.bytes.now (array_is_spelled c.args.bytes.now)
    (sym c.is_shallow.ensures ∙ c.if-not-is_shallow.false) c.whole_array.ensures

pub returns-clause-only : goal.returns-clause-only
returns-clause-only c = λ t h. array_made written_array_in c.whole_array.result t
    (again at_array (λ x. array (written_array_in x)) c.whole_array.result c.args.bytes.now (array t) (read_again (array t) h.spelled) c.whole_array.ensures h)
