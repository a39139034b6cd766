use Rattle.std.proofs.Common.{◌∙◌, sym, ap, subst}
use Rattle.std.specs.Prelude.{map}
use Rattle.fs_model.specs.View.{source_of, source_state_of}
use Rattle.fs_rules.specs.Scopes.{IsScopeOf}
use Rattle.fs_model.specs.SoundMachines.{IsSound}
use Rattle.fs_branches.specs.NumberedParts.{state_with_line}
use Rattle.fs_ast.specs.Shapes.{LeadOn}
use Rattle.fs_model.specs.Machines.{Fsmd}
use Rattle.fs_ast.specs.StoredBranches.{KeepsTypes}
use Rattle.fs_ast.proofs.Kept.{all_kept, sound, lawful}
use Rattle.fs_ast.proofs.Naturals.{right}
use Rattle.fs_ast.proofs.FirstBroken.{shapes_first}
use Rattle.fs_ast.proofs.Whole.{leads_placed, reset_low, machine_is, shapes_kept}
use Rattle.fs_ast.proofs.build.build_checked.Goals as goal

pub check_shapes-requires-clause-leads : goal.check_shapes-requires-clause-leads
check_shapes-requires-clause-leads c =
    let p = source_of c.args.parts.now in
    subst LeadOn (sym (ap (map state_with_line) c.as_slice.ensures.value ∙ c.in-Ok.ensures)) (leads_placed p (all_kept p c.requires.plain))

pub check_shapes-requires-clause-reset : goal.check_shapes-requires-clause-reset
check_shapes-requires-clause-reset c =
    let p = source_of c.args.parts.now in
    reset_low p c.reset_state-reset.result.0 c.as_slice.result.now c.reset_state-reset.ensures.within
    (ap (map state_with_line) c.as_slice.ensures.value ∙ c.in-Ok.ensures)

pub of-requires : goal.of-requires
of-requires c =
    let p = source_of c.args.parts.now in
    let reset = c.reset_state-reset in
    let vars = c.variables_of-vars.result.items in
    let scope = subst (λ v. IsScopeOf p v (map source_state_of c.args.scope.states.now)) (sym c.variables_of-vars.ensures) c.requires.scope in
    let late = shapes_kept p _ reset.result.0 _ (ap (map state_with_line) c.as_slice.ensures.value ∙ c.in-Ok.ensures) reset.ensures.number
    c.in-Ok-None.field-0-is
    c.in-Ok-None.ensures in
    let is = machine_is p vars _ c.in-Ok.states.items reset.result.0 scope c.in-Ok.ensures reset.ensures.number in
    λ kept. subst IsSound (sym is)
    (sound p (all_kept p c.requires.plain) late.0 late.1 (right p c.requires.formed (subst (λ (m : Fsmd). KeepsTypes m.variables m.states) is kept)))

pub returns-in-Ok-of-clause-spelled : goal.returns-in-Ok-of-clause-spelled
returns-in-Ok-of-clause-spelled c =
    let p = source_of c.args.parts.now in
    let scope = subst (λ v. IsScopeOf p v (map source_state_of c.args.scope.states.now)) (sym c.variables_of-vars.ensures) c.requires.scope in
    c.in-Ok-of.ensures
    ∙ machine_is p c.variables_of-vars.result.items _ c.in-Ok.states.items c.reset_state-reset.result.0 scope c.in-Ok.ensures
    c.reset_state-reset.ensures.number

pub returns-in-Ok-of-clause-lawful : goal.returns-in-Ok-of-clause-lawful
returns-in-Ok-of-clause-lawful c =
    let p = source_of c.args.parts.now in
    let late = shapes_kept p _ _ _ (ap (map state_with_line) c.as_slice.ensures.value ∙ c.in-Ok.ensures) c.reset_state-reset.ensures.number
    c.in-Ok-None.field-0-is
    c.in-Ok-None.ensures in
    lawful p c.requires.plain late.0 late.1

pub returns-in-Ok-Some-clause-first : goal.returns-in-Ok-Some-clause-first
returns-in-Ok-Some-clause-first c =
    shapes_first (source_of c.args.parts.now) _ c.reset_state-reset.result.0 c.in-Ok-Some.field-0 c.in-Ok-Some.fault c.requires.plain
    (ap (map state_with_line) c.as_slice.ensures.value ∙ c.in-Ok.ensures) c.reset_state-reset.ensures.number
    c.in-Ok-Some.field-0-is c.in-Ok-Some.ensures

pub returns-in-Ok-Some-clause-broken : goal.returns-in-Ok-Some-clause-broken
returns-in-Ok-Some-clause-broken c = (returns-in-Ok-Some-clause-first c).broken
