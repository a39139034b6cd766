use Rattle.std.proofs.Common.{◌≡◌, ◌∙◌, ap, sym, subst, map, [], ◌∷◌}
use Rattle.std.specs.Prelude.{true, false}
use Rattle.std.specs.List.{list_all}
use Rattle.std.proofs.lemmas.List.{map-append}
use Rattle.nf_terms.specs.Computed.{Done}
use Rattle.nf_rel.specs.View.{literal_in}
use Rattle.sym_facts.specs.Facts.{may_be_kept}
use Rattle.propagate_equations.specs.Equations.{is_needless}
use Rattle.propagate_equations.proofs.Needed.{one_kept}
use Rattle.propagate_equations.proofs.ConditionTurns.{condition_not_held, condition_over, condition_stops}
use Rattle.propagate_equations.proofs.conditions.add_condition.Goals as goal

pub returns-then-not-branch-clause-answers : goal.returns-then-not-branch-clause-answers
returns-then-not-branch-clause-answers c =
    condition_not_held c.args.meanings.now (literal_in c.args.condition.now) (map literal_in c.args.out.now.items)
    (sym c.in_ok-literal_held.ensures ∙ c.if-not-branch.true)

pub returns-in_err-over-clause-answers : goal.returns-in_err-over-clause-answers
returns-in_err-over-clause-answers c =
    condition_stops c.args.meanings.now c.args.s.now.vector (literal_in c.args.condition.now) (map literal_in c.args.out.now.items) c.requires.vector
    (sym c.in_ok-literal_held.ensures ∙ c.if-not-branch.false) _ c.from_residual-in_err-over.result c.in_err-over.field-0.0
    c.from_residual-in_err-over.ensures.1 c.in_err-over.ensures.answers

pub returns-then-is_needless-clause-answers : goal.returns-then-is_needless-clause-answers
returns-then-is_needless-clause-answers c =
    let m = literal_in c.in_ok-over.over in
    condition_over c.args.meanings.now c.args.s.now.vector (literal_in c.args.condition.now) (map literal_in c.args.out.now.items) c.requires.vector
    (sym c.in_ok-literal_held.ensures ∙ c.if-not-branch.false) m true c.in_ok-over.ensures.answers
    (c.if-is_needless.ensures ∙ ap (λ ls. is_needless (map literal_in ls) m) c.as_slice.ensures.value)

pub returns-clause-answers : goal.returns-clause-answers
returns-clause-answers c =
    let m = literal_in c.in_ok-over.over in
    let before = c.args.out.now.items in
    condition_over c.args.meanings.now c.args.s.now.vector (literal_in c.args.condition.now) (map literal_in before) c.requires.vector
    (sym c.in_ok-literal_held.ensures ∙ c.if-not-branch.false) m false c.in_ok-over.ensures.answers
    (c.if-is_needless.ensures ∙ ap (λ ls. is_needless (map literal_in ls) m) c.as_slice.ensures.value)
    ∙ ap Done (sym (ap (map literal_in) c.in_ok-push.ensures.items ∙ map-append literal_in before (c.in_ok-over.over ∷ [])))

pub returns-clause-kept : goal.returns-clause-kept
returns-clause-kept c =
    let m = literal_in c.in_ok-over.over in
    let before = c.args.out.now.items in
    subst (λ ls. list_all may_be_kept ls ≡ true)
    (sym (ap (map literal_in) c.in_ok-push.ensures.items ∙ map-append literal_in before (c.in_ok-over.over ∷ [])))
    (one_kept (map literal_in before) m c.requires.kept c.in_ok-over.ensures.normal
    (c.if-is_needless.ensures ∙ ap (λ ls. is_needless (map literal_in ls) m) c.as_slice.ensures.value))
