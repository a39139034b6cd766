use Rattle.std.proofs.Common.{Ok, Err, sym, ◌∙◌, rules}
use Rattle.term_text.specs.TermTexts.{list}
use Rattle.term_text.specs.View.{written_list_in}
use Rattle.term_values.specs.declared.faults.TermError.TheVariants.{NotNormal}
use Rattle.term_values.specs.TermValues.{within_limit, list_value}
use Rattle.term_values.specs.TermFaults.{is_normal_list, IsJudgedText}
use Rattle.term_values.proofs.ListForms.{list_of, parts_make}
use Rattle.term_values.proofs.Lists.{list_is}
use Rattle.term_values.proofs.Normal.{list_judged, no_list, no_items}
use Rattle.term_values.proofs.Refusals.{list_read, judged_refused, fault_refused}
use Rattle.term_values.proofs.reader.normal_list.Goals as goal

pub returns-in-Some-clause-refused : goal.returns-in-Some-clause-refused
returns-in-Some-clause-refused g c = λ bytes spells. fault_refused (g.N.Names.find c.args.names.now) bytes (list (written_list_in c.args.written.now))
    c.in-Some.fault spells (sym c.fault.ensures ∙ c.in-Some.is)

pub returns-in_err-items-clause-refused : goal.returns-in_err-items-clause-refused
returns-in_err-items-clause-refused g c =
    let find = g.N.Names.find c.args.names.now in
    let w = written_list_in c.args.written.now in
    let value = list_value (within_limit find) w in
    let judged : IsJudgedText c.from_residual.result (is_normal_list value) value = search (rules, no_items, list_is) in
    λ bytes spells. judged_refused find bytes (list w) value c.from_residual.result spells (sym c.fault.ensures ∙ c.in_default.is) judged

pub returns-in-Some-of-clause-read : goal.returns-in-Some-of-clause-read
returns-in-Some-of-clause-read g c = λ bytes spells.
    let find = g.N.Names.find c.args.names.now in
    let r = within_limit find in
    let w = c.args.written.now in
    let made = parts_make r w c.deref.result.now c.list_base_tree-base.result c.in_ok-items.items.items c.deref.ensures.value c.in_ok-items.ensures.0
    c.list_base_tree-base.ensures in
    list_read find bytes (written_list_in w) (Ok c.in-Some-of.list) spells (sym c.fault.ensures ∙ c.in_default.is)
    (c.in-Some-of.ensures ∙ made, list_judged c.in-Some-of.list (list_value r (written_list_in w)) (c.in-Some-of.ensures ∙ made) c.items.ensures.normal)

pub returns-in-None-clause-refused : goal.returns-in-None-clause-refused
returns-in-None-clause-refused g c = λ bytes spells.
    let find = g.N.Names.find c.args.names.now in
    let r = within_limit find in
    let w = c.args.written.now in
    let value = list_value r (written_list_in w) in
    let made = parts_make r w c.deref.result.now c.list_base_tree-base.result c.in_ok-items.items.items c.deref.ensures.value c.in_ok-items.ensures.0
    c.list_base_tree-base.ensures in
    judged_refused find bytes (list (written_list_in w)) value (Err NotNormal) spells (sym c.fault.ensures ∙ c.in_default.is)
    (no_list (list_of c.list_base_tree-base.result c.in_ok-items.items.items) value made c.in-None.ensures)
