-- What stands at the front of the bytes, and how many bytes it takes.
use Rattle.std.specs.Prelude.{ℕ, ◌^◌, pos, Bool, cond, not, ◌||◌, ◌==◌, nat_lt, Option, Some, None, List, [], ◌∷◌}
use Rattle.std.specs.Prelude.{take, codes}
use Rattle.std.specs.List.{prefix_len}
use Rattle.std.specs.Str.{bytes_eq}
use Rattle.fs_model.specs.Digits.{value_of_digits}
use Rattle.fs_model.specs.Words.{is_letter, is_digit, is_word_byte, is_name}
use Rattle.fs_model.specs.declared.parts.Rel.TheVariants.{Eq, Ne, Lt, Le, Gt, Ge}
use Rattle.fs_model.specs.declared.parts.Role.TheVariants.{Input, Output, Local}
use Rattle.fs_grammar.specs.declared.token.Flaw.TheVariants.{Byte, Word}
use Rattle.fs_grammar.specs.declared.token.Flaw.TheVariants as flaws
use Rattle.fs_grammar.specs.declared.token.TokenKind.{TokenKind}
use Rattle.fs_grammar.specs.declared.token.TokenKind.TheVariants.{Fsmd, Declare, Array, Reset, State, When, Goto, Start, Done}
use Rattle.fs_grammar.specs.declared.token.TokenKind.TheVariants.{Emit, Port, Name, Number, Semicolon, Colon, Comma, Equals}
use Rattle.fs_grammar.specs.declared.token.TokenKind.TheVariants.{OpenParen, CloseParen, OpenBracket, CloseBracket, OpenBrace}
use Rattle.fs_grammar.specs.declared.token.TokenKind.TheVariants.{CloseBrace, Plus, Minus, Star, Slash, Percent, Bang, AndAnd}
use Rattle.fs_grammar.specs.declared.token.TokenKind.TheVariants.{OrOr, Relation, Bad}
use Rattle.fs_lex.specs.declared.lexemes.Lexeme.{Lexeme}
use Rattle.fs_lex.specs.declared.lexemes.Lexeme.TheVariants.{Blank, Token}

-- space, tab, CR and LF separate tokens
abbrev pub is_space : ℕ → Bool
is_space b = b == 32 || b == 9 || b == 13 || b == 10

-- a comment goes on up to the next LF
abbrev pub is_in_comment : ℕ → Bool
is_in_comment b = not (b == 10)

-- the token of a reserved word
abbrev pub keyword_of : List ℕ → Option TokenKind
keyword_of bs =
    cond (bytes_eq bs (codes "fsmd")) (Some Fsmd)
    (cond (bytes_eq bs (codes "input")) (Some (Declare Input))
    (cond (bytes_eq bs (codes "output")) (Some (Declare Output))
    (cond (bytes_eq bs (codes "local")) (Some (Declare Local))
    (cond (bytes_eq bs (codes "array")) (Some Array)
    (cond (bytes_eq bs (codes "reset")) (Some Reset)
    (cond (bytes_eq bs (codes "state")) (Some State)
    (cond (bytes_eq bs (codes "when")) (Some When)
    (cond (bytes_eq bs (codes "goto")) (Some Goto)
    (cond (bytes_eq bs (codes "start")) (Some Start)
    (cond (bytes_eq bs (codes "done")) (Some Done)
    (cond (bytes_eq bs (codes "emit")) (Some Emit)
    (cond (bytes_eq bs (codes "port")) (Some Port) None))))))))))))

-- every other word is a name, where it is not too long
abbrev pub name_or_bad : List ℕ → Option TokenKind → TokenKind
name_or_bad bs (Some t) = t
name_or_bad bs None = cond (is_name bs) (Name bs) (Bad Word)

-- the token of a word
abbrev pub word_token : List ℕ → TokenKind
word_token bs = name_or_bad bs (keyword_of bs)

-- the token of a run of digits
unfoldable pub number_token : List ℕ → TokenKind
number_token bs = cond (nat_lt (value_of_digits bs) (2 ^ 127)) (Number (pos (value_of_digits bs))) (Bad flaws.Number)

-- a punctuation of two bytes
abbrev pub double_punctuation : ℕ → ℕ → Option TokenKind
double_punctuation b c =
    cond (bytes_eq (b ∷ c ∷ []) (codes "==")) (Some (Relation Eq))
    (cond (bytes_eq (b ∷ c ∷ []) (codes "!=")) (Some (Relation Ne))
    (cond (bytes_eq (b ∷ c ∷ []) (codes "<=")) (Some (Relation Le))
    (cond (bytes_eq (b ∷ c ∷ []) (codes ">=")) (Some (Relation Ge))
    (cond (bytes_eq (b ∷ c ∷ []) (codes "&&")) (Some AndAnd)
    (cond (bytes_eq (b ∷ c ∷ []) (codes "||")) (Some OrOr) None)))))

-- a punctuation of one byte that groups or separates
abbrev pub mark : ℕ → Option TokenKind
mark b =
    cond (bytes_eq (b ∷ []) (codes ";")) (Some Semicolon)
    (cond (bytes_eq (b ∷ []) (codes ":")) (Some Colon)
    (cond (bytes_eq (b ∷ []) (codes ",")) (Some Comma)
    (cond (bytes_eq (b ∷ []) (codes "=")) (Some Equals)
    (cond (bytes_eq (b ∷ []) (codes "(")) (Some OpenParen)
    (cond (bytes_eq (b ∷ []) (codes ")")) (Some CloseParen)
    (cond (bytes_eq (b ∷ []) (codes "[")) (Some OpenBracket)
    (cond (bytes_eq (b ∷ []) (codes "]")) (Some CloseBracket)
    (cond (bytes_eq (b ∷ []) (codes "{")) (Some OpenBrace)
    (cond (bytes_eq (b ∷ []) (codes "}")) (Some CloseBrace) None)))))))))

-- a punctuation of one byte that computes or compares, or a byte that begins no token
abbrev pub operator : ℕ → TokenKind
operator b =
    cond (bytes_eq (b ∷ []) (codes "+")) Plus
    (cond (bytes_eq (b ∷ []) (codes "-")) Minus
    (cond (bytes_eq (b ∷ []) (codes "*")) Star
    (cond (bytes_eq (b ∷ []) (codes "/")) Slash
    (cond (bytes_eq (b ∷ []) (codes "%")) Percent
    (cond (bytes_eq (b ∷ []) (codes "!")) Bang
    (cond (bytes_eq (b ∷ []) (codes "<")) (Relation Lt)
    (cond (bytes_eq (b ∷ []) (codes ">")) (Relation Gt) (Bad Byte))))))))

abbrev pub or_operator : ℕ → Option TokenKind → TokenKind
or_operator b (Some t) = t
or_operator b None = operator b

-- the token of one byte that is no letter or digit
abbrev pub single_punctuation : ℕ → TokenKind
single_punctuation b = or_operator b (mark b)

abbrev pub longest : Option TokenKind → ℕ → Lexeme
longest (Some t) b = Token t 2
longest None b = Token (single_punctuation b) 1

-- the longest punctuation is taken
abbrev pub punctuation_of : List ℕ → Lexeme
punctuation_of [] = Blank 0
punctuation_of (b ∷ []) = Token (single_punctuation b) 1
punctuation_of (b ∷ c ∷ bs) = longest (double_punctuation b c) b

-- what the front of the bytes is: a word or a run of digits is as long as it can be
abbrev pub lexeme_of : List ℕ → Lexeme
lexeme_of [] = Blank 0
lexeme_of (b ∷ bs) =
    cond (is_space b) (Blank 1)
    (cond (b == 35) (Blank (prefix_len is_in_comment (b ∷ bs)))
    (cond (is_letter b) (Token (word_token (take (prefix_len is_word_byte (b ∷ bs)) (b ∷ bs))) (prefix_len is_word_byte (b ∷ bs)))
    (cond (is_digit b) (Token (number_token (take (prefix_len is_digit (b ∷ bs)) (b ∷ bs))) (prefix_len is_digit (b ∷ bs)))
    (punctuation_of (b ∷ bs)))))

-- how many bytes it takes
abbrev pub size : Lexeme → ℕ
size (Blank n) = n
size (Token t n) = n
