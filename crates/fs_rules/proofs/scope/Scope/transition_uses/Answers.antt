use Rattle.std.proofs.Common.{◌∙◌, sym, ap, ap₂}
use Rattle.std.specs.Prelude.{map, option_map}
use Rattle.fs_model.specs.View.{named_assignment, named_guard}
use Rattle.fs_model.specs.Renamed.{assignment_over, guard_over}
use Rattle.fs_rules.specs.MachineOfParts.{place_or_end, names_of}
use Rattle.fs_model.specs.SoundMachines.{scalars_in_guard, arrays_in_guard, scalars_in_assignments, arrays_in_assignments, ports_in_assignments}
use Rattle.fs_rules.specs.Uses.{either_of}
use Rattle.fs_rules.proofs.Uses.{either_transition, all_uses, guarded_uses}
use Rattle.fs_rules.proofs.scope.Scope.transition_uses.Goals as goal

pub returns-in-None : goal.returns-in-None
returns-in-None c =
    let vs = c.args.self.now.vars.items in
    let f = place_or_end (names_of vs) in
    let done = map (assignment_over f) (map named_assignment c.args.line.now.assigns.items) in
    c.assigns_uses-assigns.ensures
    ∙ ap (λ bs. all_uses vs (map (assignment_over f) (map named_assignment bs))) c.deref.ensures.value
    ∙ sym (ap (λ o. guarded_uses vs done (option_map (guard_over f) (option_map named_guard o))) c.in-None.is)

pub returns-in-Some : goal.returns-in-Some
returns-in-Some c =
    let vs = c.args.self.now.vars.items in
    let f = place_or_end (names_of vs) in
    let g = guard_over f (named_guard c.in-Some.guard) in
    let done = map (assignment_over f) (map named_assignment c.args.line.now.assigns.items) in
    c.either.ensures
    ∙ ap₂ either_of c.guard_uses.ensures
    (c.assigns_uses-assigns.ensures ∙ ap (λ bs. all_uses vs (map (assignment_over f) (map named_assignment bs))) c.deref.ensures.value)
    ∙ either_transition vs (scalars_in_guard g) (arrays_in_guard g) (scalars_in_assignments done) (arrays_in_assignments done) (ports_in_assignments done)
    ∙ sym (ap (λ o. guarded_uses vs done (option_map (guard_over f) (option_map named_guard o))) c.in-Some.is)
