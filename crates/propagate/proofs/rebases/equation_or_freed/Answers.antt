use Rattle.std.proofs.Common.{refl, ap, sym, ◌∙◌}
use Rattle.nf_terms.specs.Computed.{Done}
use Rattle.propagate.specs.Rebases.{equation_found}
use Rattle.propagate.proofs.rebases.equation_or_freed.Goals as goal

pub returns-in-Some-clause-answers : goal.returns-in-Some-clause-answers
returns-in-Some-clause-answers c =
    sym (ap (equation_found c.args.v.now c.args.meanings.now c.args.value.now) c.as_slice.ensures.value)
    ∙ c.in_ok-equation.ensures.answers
    ∙ ap Done c.in-Some.is

pub returns-in-Some-clause-freed : goal.returns-in-Some-clause-freed
returns-in-Some-clause-freed c = refl

pub returns-clause-answers : goal.returns-clause-answers
returns-clause-answers c =
    sym (ap (equation_found c.args.v.now c.args.meanings.now c.args.value.now) c.as_slice.ensures.value)
    ∙ c.in_ok-equation.ensures.answers
    ∙ ap Done c.in_default.is

pub returns-clause-freed : goal.returns-clause-freed
returns-clause-freed c = c.in_ok-push.ensures.items
