use Rattle.std.proofs.Common.{◌∙◌, sym, ap, ap₂, take}
use Rattle.std.specs.Prelude.{map}
use Rattle.fs_model.specs.View.{named_assignment}
use Rattle.fs_model.specs.Renamed.{assignment_over}
use Rattle.fs_rules.specs.MachineOfParts.{place_or_end, names_of}
use Rattle.fs_model.specs.SoundMachines.{scalars_in_assignments, arrays_in_assignments, ports_in_assignments}
use Rattle.fs_rules.specs.Uses.{uses_of, either_of}
use Rattle.std.proofs.lemmas.List.{take_all}
use Rattle.fs_rules.proofs.Turns.{taken_twice}
use Rattle.fs_rules.proofs.Uses.{all_uses, uses_push}
use Rattle.fs_rules.proofs.scope.Scope.assigns_uses.Goals as goal

pub loop-assign-preserved : goal.loop-assign-preserved
loop-assign-preserved c =
    let vs = c.args.self.now.vars.items in
    let over = assignment_over (place_or_end (names_of vs)) in
    let xs = c.args.assigns.now in
    let i = c.loop-assign.assign-index in
    let x = c.assign-item.result in
    c.either-uses.ensures
    ∙ ap₂ either_of c.loop-assign.invariant c.assign_uses.ensures
    ∙ uses_push vs (map over (map named_assignment (take i xs))) (over (named_assignment x))
    ∙ sym
    (ap (λ l. uses_of vs (scalars_in_assignments l) (arrays_in_assignments l) (ports_in_assignments l))
    (taken_twice over named_assignment xs i x c.loop-assign-test.true c.assign-item.is))

pub returns : goal.returns
returns c =
    let vs = c.args.self.now.vars.items in
    c.loop-assign.invariant
    ∙ ap (λ xs. all_uses vs (map (assignment_over (place_or_end (names_of vs))) (map named_assignment xs)))
    (take_all c.loop-assign.assign-index c.args.assigns.now c.loop-assign-test.false)
