-- Where words lead, token by token.
use Rattle.std.specs.Prelude.{List, [], ◌∷◌, map, Option, Some, None}
use Rattle.fs_model.specs.Source.{Source}
use Rattle.fs_grammar.specs.declared.token.Token.{Token}
use Rattle.fs_grammar.specs.Grammar.{ParseState, at_start, step, finish_source}
use Rattle.fs_grammar.specs.Spelling.{Word, at}

-- the tokens by their lines and kinds
abbrev pub words : List Token → List Word
words ts = map (λ t. at t.place.line t.kind) ts

-- one step after another, up to the first that there is not
abbrev pub and_then : {A B : Type 0} → Option A → (A → Option B) → Option B
and_then None f = None
and_then (Some s) f = f s

-- where words lead from a place, or none where one of them cannot follow
abbrev pub walk : List Word → ParseState → Option ParseState
walk [] s = Some s
walk (at n k ∷ ws) s = and_then (step s n k) (walk ws)

-- the source that words lead to
abbrev pub source_at : List Word → Option Source
source_at ws = and_then (walk ws at_start) finish_source
