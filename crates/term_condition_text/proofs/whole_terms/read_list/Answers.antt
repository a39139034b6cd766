use Rattle.std.proofs.Common.{sym, ◌∙◌}
use Rattle.term_text.specs.Machine.{at_list}
use Rattle.term_text.specs.TermTexts.{list}
use Rattle.term_text.specs.View.{written_list_in}
use Rattle.term_condition_text.proofs.Again.{again, found, list_made}
use Rattle.term_text.proofs.Sound.{list_is_spelled}
use Rattle.term_text.proofs.Walks.{read_again}
use Rattle.term_condition_text.proofs.whole_terms.read_list.Goals as goal

pub returns-clause-found : goal.returns-clause-found
returns-clause-found c = found at_list (λ t. list (written_list_in t)) c.whole_list.result c.args.bytes.now (list_is_spelled c.args.bytes.now)
    (sym c.is_shallow.ensures ∙ c.if-not-is_shallow.false) c.whole_list.ensures

pub returns-clause-only : goal.returns-clause-only
returns-clause-only c = λ t h. list_made written_list_in c.whole_list.result t
    (again at_list (λ x. list (written_list_in x)) c.whole_list.result c.args.bytes.now (list t) (read_again (list t) h.spelled) c.whole_list.ensures h)
