-- The tokens of a text, with their places.
use Rattle.std.specs.Prelude.{ℕ, zero, suc, ◌+◌, ◌-◌, Bool, true, false, cond, ◌&&◌, ◌==◌, nat_le, List, [], ◌∷◌}
use Rattle.fs_model.specs.Limits.{most_operators}
use Rattle.fs_grammar.specs.declared.fault.TextPlace.{TextPlace}
use Rattle.fs_grammar.specs.declared.token.TokenKind.{TokenKind}
use Rattle.fs_grammar.specs.declared.token.TokenKind.TheVariants.{Bad, End}
use Rattle.fs_grammar.specs.declared.token.Token.{Token}
use Rattle.fs_grammar.specs.Operators.{is_operator, starts_expression}
use Rattle.fs_lex.specs.declared.lexemes.Lexeme.{Lexeme}
use Rattle.fs_lex.specs.declared.lexemes.Lexeme.TheVariants as lexemes
use Rattle.fs_lex.specs.Lexemes.{lexeme_of}

-- the place after a byte
abbrev pub place_after_byte : TextPlace → ℕ → TextPlace
place_after_byte p b = cond (b == 10) (record { line = p.line + 1; column = 1 }) (record { line = p.line; column = p.column + 1 })

-- the place after some bytes
abbrev pub place_after_bytes : TextPlace → List ℕ → TextPlace
place_after_bytes p [] = p
place_after_bytes p (b ∷ bs) = place_after_bytes (place_after_byte p b) bs

-- how many operators the guard or assignment has up to the token, where n stand before the token
abbrev pub operators_up_to_token : TokenKind → ℕ → ℕ
operators_up_to_token t n = cond (starts_expression t) 0 (cond (is_operator t) (n + 1) n)

-- an operator after as many as there may be
abbrev pub is_past_limit : TokenKind → ℕ → Bool
is_past_limit t n = is_operator t && nat_le most_operators n

abbrev pub is_bad : TokenKind → Bool
is_bad (Bad flaw) = true
is_bad _ = false

-- blanks give no token, and nothing comes after a token that is bad
abbrev pub emit_token : Lexeme → TextPlace → ℕ → (ℕ → ℕ → List Token) → List Token
emit_token (lexemes.Blank n) p operators go = go (n - 1) operators
emit_token (lexemes.Token t n) p operators go = record { kind = t; past_limit = is_past_limit t operators; place = p }
    ∷ cond (is_bad t) [] (go (n - 1) (operators_up_to_token t operators))

-- the tokens from a place on, where skip bytes still belong to the token before
abbrev pub scan : List ℕ → ℕ → TextPlace → ℕ → List Token
scan [] skip p operators = record { kind = End; past_limit = false; place = p } ∷ []
scan (b ∷ bs) (suc skip) p operators = scan bs skip (place_after_byte p b) operators
scan (b ∷ bs) zero p operators = emit_token (lexeme_of (b ∷ bs)) p operators (λ skip n. scan bs skip (place_after_byte p b) n)

-- the tokens of a text; the last is the end of the bytes, or bad
abbrev pub tokens_of : List ℕ → List Token
tokens_of bytes = scan bytes 0 (record { line = 1; column = 1 }) 0
