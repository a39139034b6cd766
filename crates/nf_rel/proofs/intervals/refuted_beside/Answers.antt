use Rattle.std.proofs.Common.{map, sym, ap, ◌∙◌}
use Rattle.std.specs.Option.{option_copied}
use Rattle.nf_rel.specs.Bounds.{greatest_lower, least_upper}
use Rattle.nf_rel.specs.View.{literal_in}
use Rattle.nf_rel.proofs.Sides.{no_lower_beside, no_upper_beside, decided}
use Rattle.nf_rel.proofs.intervals.refuted_beside.Goals as goal

pub returns-in-None : goal.returns-in-None
returns-in-None c =
    let d = c.args.dir.now in
    let ls = map literal_in c.args.list.now in
    sym
    (no_lower_beside d c.args.k c.args.bound.now ls
    (sym (c.greatest_lower.ensures ∙ ap (λ x. greatest_lower d x ls) c.lower_of.ensures) ∙ ap option_copied c.in-None.is))

pub returns-in-None-least_upper : goal.returns-in-None-least_upper
returns-in-None-least_upper c =
    let d = c.args.dir.now in
    let ls = map literal_in c.args.list.now in
    sym
    (no_upper_beside d c.args.k c.args.bound.now ls
    (sym (c.least_upper.ensures ∙ ap (λ x. least_upper d x ls) c.upper_of.ensures) ∙ ap option_copied c.in-None-least_upper.is))

pub returns-in-Some-least_upper : goal.returns-in-Some-least_upper
returns-in-Some-least_upper c =
    let d = c.args.dir.now in
    let ls = map literal_in c.args.list.now in
    decided d c.args.k c.args.bound.now ls c.in-Some.low.now c.in-Some-least_upper.high.now c.none_between.result
    (sym (c.greatest_lower.ensures ∙ ap (λ x. greatest_lower d x ls) c.lower_of.ensures) ∙ ap option_copied c.in-Some.is)
    (sym (c.least_upper.ensures ∙ ap (λ x. least_upper d x ls) c.upper_of.ensures) ∙ ap option_copied c.in-Some-least_upper.is)
    c.none_between.ensures
