use Rattle.std.proofs.Common.{◌≡◌, ap, sym, subst, ◌∙◌, map, take}
use Rattle.std.specs.Prelude.{true}
use Rattle.std.specs.List.{list_all}
use Rattle.nf_terms.specs.Computed.{Done}
use Rattle.nf_rel.specs.View.{literal_in}
use Rattle.sym_facts.specs.Facts.{may_be_kept, most_literals}
use Rattle.propagate_equations.proofs.Needed.{taken_pass, first_read}
use Rattle.propagate_equations.proofs.ConditionTurns.{turn_done, turn_stops, turns_end}
use Rattle.propagate_equations.proofs.conditions.conditions_kept.Goals as goal

pub returns-in_err-add_condition-clause-answers : goal.returns-in_err-add_condition-clause-answers
returns-in_err-add_condition-clause-answers c =
    turn_stops c.args.meanings.now literal_in c.args.conditions.now c.loop-condition.condition-index c.condition-item.result
    (map literal_in c.loop-condition.out.items) c.loop-condition-test.true c.condition-item.is c.loop-condition.invariant.rest
    (λ ls. map literal_in ls.items) c.from_residual.result c.in_err-add_condition.field-0.0 c.from_residual.ensures.1
    c.in_err-add_condition.ensures.answers

pub loop-condition-preserved : goal.loop-condition-preserved
loop-condition-preserved c = record {
  vector = c.in_ok-add_condition.ensures.vector ∙ c.loop-condition.invariant.vector;
  kept = c.in_ok-add_condition.ensures.kept;
  rest = turn_done c.args.meanings.now literal_in c.args.conditions.now c.loop-condition.condition-index c.condition-item.result
      (map literal_in c.loop-condition.out.items) c.loop-condition-test.true c.condition-item.is c.loop-condition.invariant.rest
      (map literal_in c.add_condition.new.out.items) c.in_ok-add_condition.ensures.answers;
}

pub returns-clause-answers : goal.returns-clause-answers
returns-clause-answers c =
    let out = c.loop-condition.out.items in
    let e : map literal_in c.truncate.new.self.items ≡ take most_literals (map literal_in out) =
    ap (map literal_in) c.truncate.ensures.items ∙ first_read most_literals out in
    turns_end c.args.meanings.now literal_in c.args.conditions.now c.loop-condition.condition-index (map literal_in out) c.loop-condition-test.false
    c.loop-condition.invariant.rest
    ∙ ap Done (sym e)

pub returns-clause-kept : goal.returns-clause-kept
returns-clause-kept c =
    let out = c.loop-condition.out.items in
    let e : map literal_in c.truncate.new.self.items ≡ take most_literals (map literal_in out) =
    ap (map literal_in) c.truncate.ensures.items ∙ first_read most_literals out in
    subst (λ ls. list_all may_be_kept ls ≡ true) (sym e) (taken_pass may_be_kept most_literals (map literal_in out) c.loop-condition.invariant.kept)
