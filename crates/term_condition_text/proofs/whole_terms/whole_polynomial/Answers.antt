use Rattle.std.proofs.Common.{◌∙◌, arith}
use Rattle.term_text.specs.Machine.{whole_polynomial}
use Rattle.term_text.specs.View.{written_polynomial_in}
use Rattle.term_text.proofs.Steps.{not_ended}
use Rattle.term_condition_text.proofs.whole_terms.whole_polynomial.Goals as goal

pub returns : goal.returns
returns c = c.in_ok-made.ensures.goes whole_polynomial ∙ not_ended c.in_ok-made.rest.now (written_polynomial_in c.in_ok-made.made)
    (omega (arith, c.in-len1-up.len_at_least))
