-- What the tokens of a text are.
use Rattle.std.specs.Prelude.{pos, ◌≤ℤ◌, Bool, false, not, ◌&&◌, IsTrue, List, [], ◌∷◌}
use Rattle.fs_model.specs.Limits.{most_number}
use Rattle.fs_model.specs.Words.{is_name}
use Rattle.fs_grammar.specs.declared.token.TokenKind.{TokenKind}
use Rattle.fs_grammar.specs.declared.token.TokenKind.TheVariants.{Name, Number}
use Rattle.fs_grammar.specs.declared.token.Token.{Token}
use Rattle.fs_lex.specs.Tokenization.{ends_text}

-- a name is a name indeed, and a number is not negative and no larger than a text may have
abbrev pub IsProper : TokenKind → Type 0
IsProper (Name x) = IsTrue (is_name x)
IsProper (Number n) = (pos 0 ≤ℤ n) × (n ≤ℤ pos most_number)
IsProper _ = Unit {0}

-- the last token ends the text, and no other does
abbrev pub end_once : List Token → Bool
end_once [] = false
end_once (t ∷ []) = ends_text t.kind
end_once (t ∷ u ∷ ts) = not (ends_text t.kind) && end_once (u ∷ ts)
