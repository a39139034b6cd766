-- Parts with the lines that they have in their canonical text.
use Rattle.std.specs.Prelude.{ℕ, ◌+◌, List, [], ◌∷◌, length, map}
use Rattle.fs_model.specs.Source.{Declaration, SourceTransition, SourceState, Source}

-- declarations, one on each line from n on
abbrev pub declarations_from : ℕ → List Declaration → List Declaration
declarations_from n [] = []
declarations_from n (d ∷ ds) = record { line = n; role = d.role; sort = d.sort; names = d.names } ∷ declarations_from (n + 1) ds

-- transitions, one on each line from n on
abbrev pub lines_from : ℕ → List SourceTransition → List SourceTransition
lines_from n [] = []
lines_from n (l ∷ ls) = record { line = n; content = l.content } ∷ lines_from (n + 1) ls

-- states from line n on, each with its transitions on the lines after it
abbrev pub states_from : ℕ → List SourceState → List SourceState
states_from n [] = []
states_from n (s ∷ ss) = record { line = n; name = s.name; transitions = lines_from (n + 1) s.transitions }
    ∷ states_from (n + 1 + length s.transitions) ss

-- line 1 is the head; the declarations, the reset state and the states come after it
abbrev pub with_canonical_lines : Source → Source
with_canonical_lines s = record {
  declarations = declarations_from 2 s.declarations;
  reset_line = 2 + length s.declarations;
  reset = s.reset;
  states = states_from (2 + length s.declarations + 1) s.states;
}

abbrev pub declaration_at_line_0 : Declaration → Declaration
declaration_at_line_0 d = record { line = 0; role = d.role; sort = d.sort; names = d.names }

abbrev pub transition_at_line_0 : SourceTransition → SourceTransition
transition_at_line_0 l = record { line = 0; content = l.content }

abbrev pub state_at_line_0 : SourceState → SourceState
state_at_line_0 s = record { line = 0; name = s.name; transitions = map transition_at_line_0 s.transitions }

-- parts with every line set to 0: two parts that agree here are the same but for lines
abbrev pub without_lines : Source → Source
without_lines s = record {
  declarations = map declaration_at_line_0 s.declarations;
  reset_line = 0;
  reset = s.reset;
  states = map state_at_line_0 s.states;
}
