-- Transitions and states over numbers, as the code has them.
use Rattle.std.specs.Prelude.{ℕ, List, map, option_map}
use Rattle.fs_model.specs.Expressions.{Transition}
use Rattle.fs_model.specs.Machines.{State}
use Rattle.fs_model.specs.View.{guard_of, assignment_of}
use Rattle.fs_model.specs.Source.{SourceState, Source}
use Rattle.fs_rules.specs.MachineOfParts.{variables_of, names_of, state_names, state_spelled}
use Rattle.fs_branches.specs.declared.resolve.Transition.{Transition as NumberedTransition}
use Rattle.fs_branches.specs.declared.resolve.State.{State as NumberedState}

-- what a transition says
abbrev pub resolved_transition : NumberedTransition → Transition ℕ ℕ
resolved_transition l = record {
  guard = option_map guard_of l.guard;
  target = l.target.0;
  assignments = map assignment_of l.assigns.value.items;
}

-- what a state says
abbrev pub resolved_state : NumberedState → State
resolved_state s = record { name = s.name; transitions = map resolved_transition s.lines.items }

-- a state and the line at which it stands
abbrev pub state_with_line : NumberedState → ℕ × State
state_with_line s = (s.line, resolved_state s)

-- the same of a state of the text, over the places of names
abbrev pub spelled_state_with_line : List (List ℕ) → List (List ℕ) → SourceState → ℕ × State
spelled_state_with_line vs ss s = (s.line, state_spelled vs ss s)

-- the states of parts, each with its line, over the places of the names that the parts declare
abbrev pub states_with_lines : Source → List (ℕ × State)
states_with_lines p = map (spelled_state_with_line (names_of (variables_of p.declarations)) (state_names p.states)) p.states
