use Rattle.std.proofs.Common.{Ok, sym, ◌∙◌, rules}
use Rattle.nf_rel.specs.NormalLiterals.{is_normal_literal}
use Rattle.nf_rel.specs.View.{literal_in}
use Rattle.nf_rel.specs.declared.literals.NLit.TheVariants.{False}
use Rattle.term_condition_text.specs.View.{condition_in}
use Rattle.term_values.specs.Conditions.{condition_value}
use Rattle.term_values.specs.TermFaults.{IsJudgedAs}
use Rattle.term_values.specs.TermValues.{within_limit}
use Rattle.term_values.proofs.LiteralForms.{no_polynomial, condition_read, condition_refused, fault_refused}
use Rattle.term_values.proofs.literals.normal_literal.Goals as goal

pub returns-in-Some-clause-refused : goal.returns-in-Some-clause-refused
returns-in-Some-clause-refused g c = λ bytes spells. fault_refused (g.N.Names.find c.args.names.now) bytes (condition_in c.args.written.now)
    c.in-Some.fault spells (sym c.fault.ensures ∙ c.in-Some.is)

pub returns-in-False-clause-read : goal.returns-in-False-clause-read
returns-in-False-clause-read g c =
    let find = g.N.Names.find c.args.names.now in
    let value = condition_value (within_limit find) (condition_in c.args.written.now) in
    let judged : IsJudgedAs literal_in (Ok False) (is_normal_literal value) value = search rules in
    λ bytes spells. condition_read literal_in find bytes (condition_in c.args.written.now) (Ok False) spells (sym c.fault.ensures ∙ c.in_default.is) judged

pub returns-in_err-dir-in-Compared-clause-refused : goal.returns-in_err-dir-in-Compared-clause-refused
returns-in_err-dir-in-Compared-clause-refused g c =
    let find = g.N.Names.find c.args.names.now in
    let value = condition_value (within_limit find) (condition_in c.args.written.now) in
    let judged : IsJudgedAs literal_in c.from_residual.result (is_normal_literal value) value = search (rules, no_polynomial) in
    λ bytes spells. condition_refused literal_in find bytes (condition_in c.args.written.now) c.from_residual.result spells
    (sym c.fault.ensures ∙ c.in_default.is) judged

pub returns-in_ok-dir-in-Compared-clause-read : goal.returns-in_ok-dir-in-Compared-clause-read
returns-in_ok-dir-in-Compared-clause-read g c =
    let find = g.N.Names.find c.args.names.now in
    let value = condition_value (within_limit find) (condition_in c.args.written.now) in
    let judged : IsJudgedAs literal_in c.bound_direction.result (is_normal_literal value) value = search rules in
    λ bytes spells. condition_read literal_in find bytes (condition_in c.args.written.now) c.bound_direction.result spells
    (sym c.fault.ensures ∙ c.in_default.is) judged

pub returns-in_ok-dir-in-Compared-clause-refused : goal.returns-in_ok-dir-in-Compared-clause-refused
returns-in_ok-dir-in-Compared-clause-refused g c =
    let find = g.N.Names.find c.args.names.now in
    let value = condition_value (within_limit find) (condition_in c.args.written.now) in
    let judged : IsJudgedAs literal_in c.bound_direction.result (is_normal_literal value) value = search rules in
    λ bytes spells. condition_refused literal_in find bytes (condition_in c.args.written.now) c.bound_direction.result spells
    (sym c.fault.ensures ∙ c.in_default.is) judged
