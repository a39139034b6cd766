-- The tokens that the limit of guards and assignments counts, and those after which one begins.
use Rattle.std.specs.Prelude.{Bool, true, false}
use Rattle.fs_grammar.specs.declared.token.TokenKind.{TokenKind}
use Rattle.fs_grammar.specs.declared.token.TokenKind.TheVariants.{When, Colon, Comma, OpenParen, OpenBracket, OpenBrace, Plus}
use Rattle.fs_grammar.specs.declared.token.TokenKind.TheVariants.{Minus, Star, Slash, Percent, Bang, AndAnd, OrOr, Relation}

-- the operators and opening brackets, of which a guard or an assignment has at most 128
abbrev pub is_operator : TokenKind → Bool
is_operator Plus = true
is_operator Minus = true
is_operator Star = true
is_operator Slash = true
is_operator Percent = true
is_operator OpenParen = true
is_operator OpenBracket = true
is_operator OpenBrace = true
is_operator Bang = true
is_operator AndAnd = true
is_operator OrOr = true
is_operator (Relation r) = true
is_operator _ = false

-- the tokens after which a guard or an assignment begins, and which stand in none
abbrev pub starts_expression : TokenKind → Bool
starts_expression When = true
starts_expression Colon = true
starts_expression Comma = true
starts_expression _ = false
