use Rattle.std.proofs.Common.{◌∙◌, sym, ap, ap₂, [], ◌∷◌, ◌++◌}
use Rattle.fs_model.specs.View.{named_assignment, named_expression}
use Rattle.fs_model.specs.Renamed.{assignment_over, expression_over}
use Rattle.fs_rules.specs.MachineOfParts.{place_or_end, names_of}
use Rattle.fs_model.specs.SoundMachines.{scalars_in, arrays_in}
use Rattle.fs_rules.specs.Uses.{either_of}
use Rattle.fs_rules.proofs.Uses.{either_uses, assigned_uses}
use Rattle.fs_rules.proofs.scope.Scope.assign_uses.Goals as goal

pub returns-in-Set : goal.returns-in-Set
returns-in-Set c =
    let vs = c.args.self.now.vars.items in
    let f = place_or_end (names_of vs) in
    let e = expression_over f (named_expression c.in-Set.value) in
    c.either.ensures
    ∙ ap₂ either_of c.scalar_use.ensures c.expr_uses.ensures
    ∙ either_uses vs (f c.in-Set.name ∷ []) [] [] (scalars_in e) (arrays_in e) []
    ∙ sym (ap (λ a. assigned_uses vs (assignment_over f (named_assignment a))) c.in-Set.is)

pub returns-in-Put : goal.returns-in-Put
returns-in-Put c =
    let vs = c.args.self.now.vars.items in
    let f = place_or_end (names_of vs) in
    let i = expression_over f (named_expression c.in-Put.index) in
    let e = expression_over f (named_expression c.in-Put.value) in
    c.either-in-Put.ensures
    ∙ ap₂ either_of c.array_use.ensures
    (c.either-expressions.ensures ∙ ap₂ either_of c.expr_uses-in-Put.ensures c.expr_uses-in-Put-2.ensures
    ∙ either_uses vs (scalars_in i) (arrays_in i) [] (scalars_in e) (arrays_in e) [])
    ∙ either_uses vs [] (f c.in-Put.name ∷ []) [] (scalars_in i ++ scalars_in e) (arrays_in i ++ arrays_in e) []
    ∙ sym (ap (λ a. assigned_uses vs (assignment_over f (named_assignment a))) c.in-Put.is)

pub returns-in-Emit : goal.returns-in-Emit
returns-in-Emit c =
    let vs = c.args.self.now.vars.items in
    let f = place_or_end (names_of vs) in
    let e = expression_over f (named_expression c.in-Emit.value) in
    c.either-in-Emit.ensures
    ∙ ap₂ either_of c.port_use.ensures c.expr_uses-in-Emit.ensures
    ∙ either_uses vs [] [] (f c.in-Emit.name ∷ []) (scalars_in e) (arrays_in e) []
    ∙ sym (ap (λ a. assigned_uses vs (assignment_over f (named_assignment a))) c.in-Emit.is)
