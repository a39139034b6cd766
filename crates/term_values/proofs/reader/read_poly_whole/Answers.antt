use Rattle.std.proofs.Common.{sym, ◌∙◌}
use Rattle.term_text.specs.TermTexts.{polynomial}
use Rattle.term_text.specs.View.{written_polynomial_in}
use Rattle.term_values.specs.TermValues.{within_limit, polynomial_value}
use Rattle.term_values.proofs.Refusals.{polynomial_read, judged_refused}
use Rattle.term_values.proofs.reader.read_poly_whole.Goals as goal

pub returns-clause-read : goal.returns-clause-read
returns-clause-read g c = polynomial_read (g.N.Names.find c.args.names.now) c.args.bytes.now
    (written_polynomial_in c.in_ok-written.written) c.normal_polynomial.result c.in_ok-written.ensures.found
    (sym c.fault.ensures ∙ c.in_default.is) c.normal_polynomial.ensures

pub returns-clause-refused : goal.returns-clause-refused
returns-clause-refused g c = judged_refused (g.N.Names.find c.args.names.now) c.args.bytes.now (polynomial (written_polynomial_in c.in_ok-written.written))
    (polynomial_value (within_limit (g.N.Names.find c.args.names.now)) (written_polynomial_in c.in_ok-written.written)) c.normal_polynomial.result
    c.in_ok-written.ensures.found (sym c.fault.ensures ∙ c.in_default.is) c.normal_polynomial.ensures
