-- The format that parts need.
use Rattle.std.specs.Prelude.{ℕ, Bool, true, false, ◌||◌, cond, List}
use Rattle.std.specs.List.{list_any}
use Rattle.fs_model.specs.Expressions.{Assignment, Assign, ArrayWrite, Emit}
use Rattle.fs_model.specs.Source.{Declaration, SourceTransition, SourceState, Source}
use Rattle.fs_model.specs.Runs.{is_port}
use Rattle.fs_grammar.specs.declared.format.Format.{Format}
use Rattle.fs_grammar.specs.declared.format.Format.TheVariants.{One, Two}

-- a declaration of ports
abbrev pub declares_ports : Declaration → Bool
declares_ports d = is_port d.sort

abbrev pub is_emit : Assignment (List ℕ) → Bool
is_emit (Emit x e) = true
is_emit (Assign x e) = false
is_emit (ArrayWrite x i e) = false

-- a transition with an emit
abbrev pub emits_in_transition : SourceTransition → Bool
emits_in_transition l = list_any is_emit l.content.assignments

-- a state with such a transition
abbrev pub emits_in_state : SourceState → Bool
emits_in_state s = list_any emits_in_transition s.transitions

-- parts with a declaration of ports or an emit
abbrev pub has_ports : Source → Bool
has_ports s = list_any declares_ports s.declarations || list_any emits_in_state s.states

-- the least format whose texts can spell the parts
abbrev pub format_for : Source → Format
format_for s = cond (has_ports s) Two One
