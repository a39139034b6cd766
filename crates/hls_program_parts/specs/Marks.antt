-- The tokens of a program, from those of its bytes: each is marked where its guard or assignment has too many operators before
-- it.
use Rattle.std.specs.Prelude.{ℕ, ◌+◌, nat_le, Bool, true, false, not, ◌&&◌, cond, List, [], ◌∷◌}
use Rattle.fs_model.specs.Limits.{most_operators}
use Rattle.fs_grammar.specs.declared.token.TokenKind.{TokenKind}
use Rattle.fs_grammar.specs.declared.token.TokenKind.TheVariants.{If, While, Semicolon, OpenBrace, Bang, AndAnd, OrOr}
use Rattle.fs_grammar.specs.declared.token.Token.{Token}
use Rattle.fs_grammar.specs.Operators.{is_operator}
use Rattle.hls_program_parts.specs.ProgramKeywords.{program_kind}

-- whether a unit of a guard may begin behind a token, so that a brace there is one of a guard; unit tells it of the place before
-- the token
abbrev pub opens_relation : Bool → TokenKind → Bool
opens_relation unit If = true
opens_relation unit While = true
opens_relation unit Bang = true
opens_relation unit AndAnd = true
opens_relation unit OrOr = true
opens_relation unit OpenBrace = unit
opens_relation unit _ = false

-- the operators and opening brackets of guards and assignments; the brace of a block is none
abbrev pub is_counted : Bool → TokenKind → Bool
is_counted unit OpenBrace = unit
is_counted unit t = is_operator t

-- the tokens behind which the next guard or assignment begins
abbrev pub starts_anew : Bool → TokenKind → Bool
starts_anew unit If = true
starts_anew unit While = true
starts_anew unit Semicolon = true
starts_anew unit OpenBrace = not unit
starts_anew unit _ = false

-- how many operators the guard or assignment has up to the token, where n stand before the token
abbrev pub operators_up_to : Bool → TokenKind → ℕ → ℕ
operators_up_to unit t n = cond (starts_anew unit t) 0 (cond (is_counted unit t) (n + 1) n)

-- an operator after as many as there may be
abbrev pub is_past_program_limit : Bool → TokenKind → ℕ → Bool
is_past_program_limit unit t n = is_counted unit t && nat_le most_operators n

-- a token of a program, where n operators stand before it
abbrev pub marked_token : Bool → ℕ → Token → Token
marked_token unit n t = record {
  kind = program_kind t.kind;
  past_limit = is_past_program_limit unit (program_kind t.kind) n;
  place = t.place;
}

-- the tokens of a program, where n operators stand before the first
abbrev pub mark_tokens : Bool → ℕ → List Token → List Token
mark_tokens unit n [] = []
mark_tokens unit n (t ∷ ts) = marked_token unit n t ∷ mark_tokens (opens_relation unit (program_kind t.kind))
    (operators_up_to unit (program_kind t.kind) n) ts

abbrev pub program_tokens : List Token → List Token
program_tokens ts = mark_tokens false 0 ts
