use Rattle.std.proofs.Common.{[], ◌∷◌, ◌++◌, Some, map, refl, ap, sym, ◌∙◌}
use Rattle.nf_terms.specs.Computed.{Done}
use Rattle.propagate.specs.Joins.{tied_equation}
use Rattle.propagate_equations.specs.View.{freed_in}
use Rattle.propagate.proofs.PassTurns.{pushed_map}
use Rattle.propagate.proofs.joins.tied_or_freed.Goals as goal

pub returns-in-Some-clause-answers : goal.returns-in-Some-clause-answers
returns-in-Some-clause-answers c =
    sym (ap (λ f. tied_equation c.args.v.now c.args.pos f (map freed_in c.args.freed.now.items)) c.form-form.ensures)
    ∙ sym (ap (λ xs. tied_equation c.args.v.now c.args.pos c.form-form.result.now (map freed_in xs)) c.as_slice.ensures.value)
    ∙ c.in_ok-tie.ensures.answers
    ∙ ap Done (c.in-Some.is ∙ ap Some (sym c.in_ok-of.ensures))

pub returns-in-Some-clause-freed : goal.returns-in-Some-clause-freed
returns-in-Some-clause-freed c = refl

pub returns-clause-answers : goal.returns-clause-answers
returns-clause-answers c =
    sym (ap (λ f. tied_equation c.args.v.now c.args.pos f (map freed_in c.args.freed.now.items)) c.form-form.ensures)
    ∙ sym (ap (λ xs. tied_equation c.args.v.now c.args.pos c.form-form.result.now (map freed_in xs)) c.as_slice.ensures.value)
    ∙ c.in_ok-tie.ensures.answers
    ∙ ap Done c.in_default.is

pub returns-clause-freed : goal.returns-clause-freed
returns-clause-freed c =
    pushed_map freed_in _ _ _ c.in_ok-push.ensures.items
    ∙ ap (λ f. map freed_in c.args.freed.now.items ++ record { pos = c.args.pos; old = f } ∷ []) c.form-form.ensures
