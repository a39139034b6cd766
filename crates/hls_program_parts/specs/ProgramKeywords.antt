-- The words of programs, which are no names in them.
use Rattle.std.specs.Prelude.{ℕ, cond, Option, Some, None, List, codes}
use Rattle.std.specs.Str.{bytes_eq}
use Rattle.fs_grammar.specs.declared.token.TokenKind.{TokenKind}
use Rattle.fs_grammar.specs.declared.token.TokenKind.TheVariants.{Prog, If, Else, While, Name}

-- the token of a word of programs, and none of other words
abbrev pub program_word : List ℕ → Option TokenKind
program_word x = cond (bytes_eq x (codes "prog")) (Some Prog)
    (cond (bytes_eq x (codes "if")) (Some If)
    (cond (bytes_eq x (codes "else")) (Some Else) (cond (bytes_eq x (codes "while")) (Some While) None)))

abbrev pub word_or_name : Option TokenKind → List ℕ → TokenKind
word_or_name (Some t) x = t
word_or_name None x = Name x

-- what a token of a text is in a program
abbrev pub program_kind : TokenKind → TokenKind
program_kind (Name x) = word_or_name (program_word x) x
program_kind t = t
