use Rattle.std.proofs.Common.{◌∙◌, sym, ap, length}
use Rattle.std.specs.Prelude.{map, not, nat_lt}
use Rattle.std.specs.List.{list_any}
use Rattle.fs_model.specs.View.{named_assignment, source_transition_of}
use Rattle.fs_model.specs.Renamed.{assignment_over}
use Rattle.fs_rules.specs.MachineOfParts.{place_or_end, names_of, transition_spelled}
use Rattle.fs_model.specs.SoundMachines.{input_at, changed_by, assigned_in, all_differ, emit_count}
use Rattle.fs_rules.specs.Places.{names_stated}
use Rattle.fs_model.specs.Limits.{most_emits}
use Rattle.fs_rules.proofs.Uses.{emits_over}
use Rattle.fs_rules.proofs.Noted.{transition_noted}
use Rattle.fs_rules.proofs.scope.Scope.check_transition.Goals as goal

pub returns : goal.returns
returns c =
    let vs = c.args.self.now.vars.items in
    let ss = names_stated c.args.self.now.states.now in
    let over = assignment_over (place_or_end (names_of vs)) in
    let same = c.as_slice-assigns.ensures.value in
    transition_noted vs (length ss) c.args.line.now.line (transition_spelled (names_of vs) ss (source_transition_of c.args.line.now)) c.args.faults.now.first _
    _ _ _
    _ _ _ _ _ _ _ _
    (ap (λ u. u.unknown) c.transition_uses-uses.ensures) (ap (λ u. u.wrong_sort) c.transition_uses-uses.ensures)
    (c.some_changes_input-changes_input.ensures ∙ ap (λ xs. list_any (λ a. input_at vs (changed_by a)) (map over (map named_assignment xs))) same)
    (c.in_ok-twice.ensures ∙ ap (λ xs. not (all_differ (assigned_in (map over (map named_assignment xs))))) same)
    (ap not c.knows_state-no_target.ensures)
    (ap (nat_lt most_emits)
    (c.emit_count-emits.ensures ∙ ap (λ xs. emit_count (map named_assignment xs)) same
    ∙ sym (emits_over (place_or_end (names_of vs)) (map named_assignment c.args.line.now.assigns.items))))
    c.note_where.ensures c.note_where-2.ensures c.note_where-3.ensures c.note_where-4.ensures c.note_where-5.ensures c.note_where-6.ensures
