use Rattle.std.proofs.Common.{ap}
use Rattle.std.specs.Prelude.{map}
use Rattle.fs_model.specs.View.{source_transition_of, source_state_of}
use Rattle.fs_rules.specs.Places.{names_stated}
use Rattle.fs_rules.proofs.Noted.{state_noted}
use Rattle.fs_rules.proofs.Results.{on_ok}
use Rattle.fs_rules.proofs.scope.Scope.check_state.Goals as goal

pub returns : goal.returns
returns c =
    on_ok c.check_transitions.result
    (state_noted c.args.self.now.vars.items (names_stated c.args.self.now.states.now) (source_state_of c.args.state.now)
    (map source_transition_of c.as_slice-lines.result.now)
    (ap (map source_transition_of) c.as_slice-lines.ensures.value) c.args.faults.now.first c.note_where.new.self.first c.note_after_else.new.faults.first
    c.check_transitions.new.faults.first c.lacks_else.result c.lacks_else.ensures c.note_where.ensures c.note_after_else.ensures)
    c.check_transitions.ensures
