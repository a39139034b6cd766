-- Parts further down in a text, and comment lines.
use Rattle.std.specs.Prelude.{◌≡◌, ℕ, ◌+◌, ◌==◌, IsTrue, List, [], ◌∷◌, ◌++◌, map}
use Rattle.std.specs.List.{list_all, count_by}
use Rattle.fs_model.specs.Source.{Declaration, SourceTransition, SourceState, Source}
use Rattle.fs_lex.specs.Lexemes.{is_in_comment}

-- a declaration, n lines further down
abbrev pub declaration_moved : ℕ → Declaration → Declaration
declaration_moved n d = record { line = n + d.line; role = d.role; sort = d.sort; names = d.names }

-- a transition, n lines further down
abbrev pub transition_moved : ℕ → SourceTransition → SourceTransition
transition_moved n l = record { line = n + l.line; content = l.content }

-- a state and its transitions, n lines further down
abbrev pub state_moved : ℕ → SourceState → SourceState
state_moved n s = record { line = n + s.line; name = s.name; transitions = map (transition_moved n) s.transitions }

-- parts, each n lines further down
abbrev pub lines_moved : ℕ → Source → Source
lines_moved n s = record {
  declarations = map (declaration_moved n) s.declarations;
  reset_line = n + s.reset_line;
  reset = s.reset;
  states = map (state_moved n) s.states;
}

-- how many lines the bytes end
abbrev pub line_feeds : List ℕ → ℕ
line_feeds bytes = count_by (λ b. b == 10) bytes

-- A comment on a line of its own, with the LF that ends it.
pub record IsCommentLine (line : List ℕ) : Type 0 where
  pub text : List ℕ
  pub is : line ≡ 35 ∷ (text ++ 10 ∷ [])
  pub inside : IsTrue (list_all is_in_comment text)
