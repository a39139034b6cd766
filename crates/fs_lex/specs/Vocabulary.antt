-- The words, numbers and punctuation of a text, said of their bytes alone.
use Rattle.std.specs.Prelude.{ℕ, ◌+◌, ◌*◌, ◌-◌, ◌^◌, Bool, false, ◌&&◌, ◌||◌, Option, List, [], ◌∷◌, ◌++◌, length, codes, is_some}
use Rattle.std.specs.List.{list_all}
use Rattle.std.specs.Map.{lookup}
use Rattle.std.specs.Str.{bytes_eq}
use Rattle.fs_model.specs.Words.{is_digit, is_word}
use Rattle.fs_model.specs.declared.parts.Rel.TheVariants.{Eq, Ne, Lt, Le, Gt, Ge}
use Rattle.fs_model.specs.declared.parts.Role.TheVariants.{Input, Output, Local}
use Rattle.fs_grammar.specs.declared.token.TokenKind.{TokenKind}
use Rattle.fs_grammar.specs.declared.token.TokenKind.TheVariants.{Fsmd, Declare, Array, Reset, State, When, Goto, Start, Done}
use Rattle.fs_grammar.specs.declared.token.TokenKind.TheVariants.{Emit, Port, Semicolon, Colon, Comma, Equals, OpenParen}
use Rattle.fs_grammar.specs.declared.token.TokenKind.TheVariants.{CloseParen, OpenBracket, CloseBracket, OpenBrace, CloseBrace}
use Rattle.fs_grammar.specs.declared.token.TokenKind.TheVariants.{Plus, Minus, Star, Slash, Percent, Bang, AndAnd, OrOr, Relation}

-- each reserved word with its token
abbrev pub reserved_tokens : List (List ℕ × TokenKind)
reserved_tokens =
    (codes "fsmd", Fsmd) ∷ (codes "input", Declare Input) ∷ (codes "output", Declare Output) ∷ (codes "local", Declare Local)
    ∷ (codes "array", Array)
    ∷ (codes "reset", Reset) ∷ (codes "state", State) ∷ (codes "when", When) ∷ (codes "goto", Goto) ∷ (codes "start", Start)
    ∷ (codes "done", Done)
    ∷ (codes "emit", Emit) ∷ (codes "port", Port) ∷ []

-- the punctuation of two bytes
abbrev pub double_tokens : List (List ℕ × TokenKind)
double_tokens =
    (codes "==", Relation Eq) ∷ (codes "!=", Relation Ne) ∷ (codes "<=", Relation Le) ∷ (codes ">=", Relation Ge)
    ∷ (codes "&&", AndAnd) ∷ (codes "||", OrOr) ∷ []

-- the punctuation of one byte
abbrev pub single_tokens : List (List ℕ × TokenKind)
single_tokens =
    (codes ";", Semicolon) ∷ (codes ":", Colon) ∷ (codes ",", Comma) ∷ (codes "=", Equals) ∷ (codes "(", OpenParen)
    ∷ (codes ")", CloseParen)
    ∷ (codes "[", OpenBracket) ∷ (codes "]", CloseBracket) ∷ (codes "{", OpenBrace) ∷ (codes "}", CloseBrace) ∷ (codes "+", Plus)
    ∷ (codes "-", Minus)
    ∷ (codes "*", Star) ∷ (codes "/", Slash) ∷ (codes "%", Percent) ∷ (codes "!", Bang) ∷ (codes "<", Relation Lt)
    ∷ (codes ">", Relation Gt) ∷ []

-- the token of a reserved word, and none of other bytes
abbrev pub reserved_kind : List ℕ → Option TokenKind
reserved_kind bs = lookup (bytes_eq bs) reserved_tokens

-- the token of punctuation, and none of other bytes
abbrev pub punctuation_kind : List ℕ → Option TokenKind
punctuation_kind bs = lookup (bytes_eq bs) (double_tokens ++ single_tokens)

-- at least one digit, and digits alone
abbrev pub is_number : List ℕ → Bool
is_number [] = false
is_number (d ∷ ds) = is_digit d && list_all is_digit ds

-- the number that digits spell: each times the power of ten of its place
abbrev pub number_value : List ℕ → ℕ
number_value [] = 0
number_value (d ∷ ds) = (d - 48) * 10 ^ length ds + number_value ds

-- one word, one number or one piece of punctuation
abbrev pub is_lexeme : List ℕ → Bool
is_lexeme bs = is_word bs || is_number bs || is_some (punctuation_kind bs)
