-- The punctuation of the canonical text is read as one token each.
use Rattle.std.proofs.Common.{◌≡◌, ℕ, ◌<◌, ◌==◌, true, false, not, List, [], ◌∷◌, ◌++◌, Some, Result, refl}
use Rattle.std.proofs.lemmas.Bool.{not-true}
use Rattle.fs_model.specs.declared.parts.Rel.{Rel}
use Rattle.fs_model.specs.declared.parts.Rel.TheVariants.{Eq, Ne, Lt, Le, Gt, Ge}
use Rattle.fs_model.specs.Words.{is_word_byte}
use Rattle.fs_model.specs.Source.{Source}
use Rattle.fs_grammar.specs.declared.fault.TextPlace.{TextPlace}
use Rattle.fs_grammar.specs.declared.fault.TextFault.{TextFault}
use Rattle.fs_grammar.specs.declared.token.TokenKind.{TokenKind}
use Rattle.fs_grammar.specs.declared.token.TokenKind.TheVariants.{OpenParen, CloseParen, OpenBracket, CloseBracket, OpenBrace, CloseBrace, Minus, Bang}
use Rattle.fs_grammar.specs.declared.token.TokenKind.TheVariants.{Relation}
use Rattle.fs_grammar.specs.declared.token.Token.{Token}
use Rattle.fs_grammar.specs.Tokens.{kind_at}
use Rattle.fs_grammar.specs.Grammar.{ParseState, step}
use Rattle.fs_lex.specs.declared.lexemes.Lexeme.{Lexeme}
use Rattle.fs_lex.specs.declared.lexemes.Lexeme.TheVariants as lexemes
use Rattle.fs_lex.specs.Lexemes.{lexeme_of}
use Rattle.fs_grammar.specs.Operators.{is_operator, starts_expression}
use Rattle.fs_lex.specs.Scan.{scan, emit_token, place_after_byte, is_bad}
use Rattle.fs_write.specs.Canonical.{relation_text}
use Rattle.fs_write.proofs.Steps.{Reads, Follows, punctuation_room, plain_room, space_reads}
use Rattle.fs_write.proofs.Words.{one_token, no_newline, opens}

-- ---- one byte before anything

pub open_paren_lexeme : (rest : List ℕ) → lexeme_of (40 ∷ rest) ≡ lexemes.Token OpenParen 1
open_paren_lexeme [] = refl
open_paren_lexeme (b ∷ rest) = refl

pub close_paren_lexeme : (rest : List ℕ) → lexeme_of (41 ∷ rest) ≡ lexemes.Token CloseParen 1
close_paren_lexeme [] = refl
close_paren_lexeme (b ∷ rest) = refl

pub open_bracket_lexeme : (rest : List ℕ) → lexeme_of (91 ∷ rest) ≡ lexemes.Token OpenBracket 1
open_bracket_lexeme [] = refl
open_bracket_lexeme (b ∷ rest) = refl

pub close_bracket_lexeme : (rest : List ℕ) → lexeme_of (93 ∷ rest) ≡ lexemes.Token CloseBracket 1
close_bracket_lexeme [] = refl
close_bracket_lexeme (b ∷ rest) = refl

pub open_brace_lexeme : (rest : List ℕ) → lexeme_of (123 ∷ rest) ≡ lexemes.Token OpenBrace 1
open_brace_lexeme [] = refl
open_brace_lexeme (b ∷ rest) = refl

pub close_brace_lexeme : (rest : List ℕ) → lexeme_of (125 ∷ rest) ≡ lexemes.Token CloseBrace 1
close_brace_lexeme [] = refl
close_brace_lexeme (b ∷ rest) = refl

pub minus_lexeme : (rest : List ℕ) → lexeme_of (45 ∷ rest) ≡ lexemes.Token Minus 1
minus_lexeme [] = refl
minus_lexeme (b ∷ rest) = refl

pub bang_lexeme : (rest : List ℕ) → opens rest ≡ true → lexeme_of (33 ∷ rest) ≡ lexemes.Token Bang 1
bang_lexeme [] h = absurd cc
bang_lexeme (b ∷ rest) h = rw (not-true (b == 61) h) refl

-- ---- punctuation that counts, and such that does not

pub punctuation_reads : {line free remains : ℕ} {r : Result Source TextFault} (b : ℕ) (rest : List ℕ) (t : TokenKind) (s n : ParseState)
    → lexeme_of (b ∷ rest) ≡ lexemes.Token t 1 → no_newline b ≡ true → is_bad t ≡ false → is_operator t ≡ true → starts_expression t ≡ false
    → step s line t ≡ Some n → remains < free → Reads line remains rest n r → Reads line free (b ∷ rest) s r
punctuation_reads {line} {free} {remains} b rest t s n e line_goes_on good o border f h d =
    one_token b [] rest t s n e (rw line_goes_on refl) good (punctuation_room t free remains o border h) f d

pub mark_reads : {line free : ℕ} {r : Result Source TextFault} (b : ℕ) (rest : List ℕ) (t : TokenKind) (s n : ParseState)
    → lexeme_of (b ∷ rest) ≡ lexemes.Token t 1 → no_newline b ≡ true → is_bad t ≡ false → is_operator t ≡ false → starts_expression t ≡ false
    → step s line t ≡ Some n → Reads line free rest n r → Reads line free (b ∷ rest) s r
mark_reads {line} {free} b rest t s n e line_goes_on good o border f d =
    one_token b [] rest t s n e (rw line_goes_on refl) good (plain_room t free o border) f d

-- ---- what follows

first_is : (l : Lexeme) (t : TokenKind) (k : ℕ) (p : TextPlace) (n : ℕ) (go : ℕ → ℕ → List Token) → l ≡ lexemes.Token t k
    → kind_at (emit_token l p n go) ≡ Some t
first_is l t k p n go e = rw e refl

pub punctuation_follows : (b : ℕ) (rest : List ℕ) (t : TokenKind) → lexeme_of (b ∷ rest) ≡ lexemes.Token t 1 → not (is_word_byte b) ≡ true
    → Follows (b ∷ rest) t
punctuation_follows b rest t e h = record {
  first = λ p n. first_is (lexeme_of (b ∷ rest)) t 1 p n (λ skip m. scan rest skip (place_after_byte p b) m) e;
  stops = h;
}

-- ---- an operator between spaces

pub spaced_reads : {line free remains : ℕ} {r : Result Source TextFault} (b : ℕ) (rest : List ℕ) (t : TokenKind) (s n : ParseState)
    → lexeme_of (b ∷ 32 ∷ rest) ≡ lexemes.Token t 1 → no_newline b ≡ true → is_bad t ≡ false → is_operator t ≡ true → starts_expression t ≡ false
    → step s line t ≡ Some n → remains < free → Reads line remains rest n r → Reads line free (32 ∷ b ∷ 32 ∷ rest) s r
spaced_reads b rest t s n e line_goes_on good o border f h d =
    space_reads (b ∷ 32 ∷ rest) (punctuation_reads b (32 ∷ rest) t s n e line_goes_on good o border f h (space_reads rest d))

pub double_reads : {line free remains : ℕ} {r : Result Source TextFault} (b c : ℕ) (rest : List ℕ) (t : TokenKind) (s n : ParseState)
    → lexeme_of (b ∷ c ∷ 32 ∷ rest) ≡ lexemes.Token t 2 → no_newline b ≡ true → no_newline c ≡ true → is_bad t ≡ false → is_operator t ≡ true
    → starts_expression t ≡ false
    → step s line t ≡ Some n → remains < free → Reads line remains rest n r → Reads line free (32 ∷ b ∷ c ∷ 32 ∷ rest) s r
double_reads {line} {free} {remains} b c rest t s n e first second good o border f h d =
    space_reads (b ∷ c ∷ 32 ∷ rest)
    (one_token b (c ∷ []) (32 ∷ rest) t s n e (rw (first, second) refl) good (punctuation_room t free remains o border h) f (space_reads rest d))

pub relation_reads : {line free remains : ℕ} {v : Result Source TextFault} (r : Rel) (rest : List ℕ) (s n : ParseState) → step s line (Relation r) ≡ Some n
    → remains < free → Reads line remains rest n v → Reads line free (relation_text r ++ rest) s v
relation_reads Eq rest s n f h d = double_reads 61 61 rest (Relation Eq) s n refl refl refl refl refl refl f h d
relation_reads Ne rest s n f h d = double_reads 33 61 rest (Relation Ne) s n refl refl refl refl refl refl f h d
relation_reads Lt rest s n f h d = spaced_reads 60 rest (Relation Lt) s n refl refl refl refl refl f h d
relation_reads Le rest s n f h d = double_reads 60 61 rest (Relation Le) s n refl refl refl refl refl refl f h d
relation_reads Gt rest s n f h d = spaced_reads 62 rest (Relation Gt) s n refl refl refl refl refl f h d
relation_reads Ge rest s n f h d = double_reads 62 61 rest (Relation Ge) s n refl refl refl refl refl refl f h d

pub relation_follows : (r : Rel) (rest : List ℕ) → Follows (relation_text r ++ rest) (Relation r)
relation_follows Eq rest = record { first = λ p n. refl; stops = refl }
relation_follows Ne rest = record { first = λ p n. refl; stops = refl }
relation_follows Lt rest = record { first = λ p n. refl; stops = refl }
relation_follows Le rest = record { first = λ p n. refl; stops = refl }
relation_follows Gt rest = record { first = λ p n. refl; stops = refl }
relation_follows Ge rest = record { first = λ p n. refl; stops = refl }
