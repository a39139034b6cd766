use Rattle.std.proofs.Common.{Ok, Err, sym, ◌∙◌}
use Rattle.nf_trees.specs.NormalTerms as terms
use Rattle.nf_trees.specs.View.{array_in}
use Rattle.term_text.specs.TermTexts.{array}
use Rattle.term_text.specs.View.{written_array_in}
use Rattle.term_values.specs.declared.faults.TermError.TheVariants.{NotNormal}
use Rattle.term_values.specs.TermValues.{within_limit, array_value}
use Rattle.term_values.proofs.Normal.{array_judged, no_array}
use Rattle.term_values.proofs.Refusals.{array_read, judged_refused, fault_refused}
use Rattle.term_values.proofs.reader.normal_array.Goals as goal

pub returns-in-Some-clause-refused : goal.returns-in-Some-clause-refused
returns-in-Some-clause-refused g c = λ bytes spells. fault_refused (g.N.Names.find c.args.names.now) bytes (array (written_array_in c.args.written.now))
    c.in-Some.fault spells (sym c.fault.ensures ∙ c.in-Some.is)

pub returns-in-Some-of-clause-read : goal.returns-in-Some-of-clause-read
returns-in-Some-of-clause-read g c = λ bytes spells.
    let find = g.N.Names.find c.args.names.now in
    let w = written_array_in c.args.written.now in
    let is = c.in-Some-of.ensures ∙ c.in_ok-tree.ensures in
    array_read find bytes w (Ok c.in-Some-of.array) spells (sym c.fault.ensures ∙ c.in_default.is)
    (is, array_judged c.in-Some-of.array (array_value (within_limit find) w terms.NoWrites) is c.tree.ensures.normal)

pub returns-in-None-clause-refused : goal.returns-in-None-clause-refused
returns-in-None-clause-refused g c = λ bytes spells.
    let find = g.N.Names.find c.args.names.now in
    let w = written_array_in c.args.written.now in
    let value = array_value (within_limit find) w terms.NoWrites in
    judged_refused find bytes (array w) value (Err NotNormal) spells (sym c.fault.ensures ∙ c.in_default.is)
    (no_array (array_in c.in_ok-tree.tree) value c.in_ok-tree.ensures c.in-None.ensures)
