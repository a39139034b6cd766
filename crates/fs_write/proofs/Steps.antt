-- What bytes read as from a state on, on one line and with few enough operators.
use Rattle.std.proofs.Common.{◌≡◌, ℕ, ◌+◌, ◌<◌, ◌≤◌, Bool, true, false, not, List, [], ◌∷◌, ◌++◌, Some, Result, refl, sym, subst, append_assoc, nat_le, arith}
use Rattle.std.proofs.lemmas.Bool.Decides.{nat_tests}
use Rattle.fs_model.specs.Words.{is_word_byte}
use Rattle.fs_model.specs.Source.{Source}
use Rattle.fs_grammar.specs.declared.fault.TextPlace.{TextPlace}
use Rattle.fs_grammar.specs.declared.fault.TextFault.{TextFault}
use Rattle.fs_grammar.specs.declared.token.TokenKind.{TokenKind}
use Rattle.fs_grammar.specs.declared.token.Token.{Token}
use Rattle.fs_grammar.specs.Tokens.{kind_at}
use Rattle.fs_grammar.specs.Grammar.{ParseState, step, reading}
use Rattle.fs_grammar.specs.Operators.{is_operator, starts_expression}
use Rattle.fs_lex.specs.Scan.{scan, is_past_limit, operators_up_to_token}

-- on this line, at any column, and with at least so many operators still free, the bytes read as r from s on
pub record Reads (line free : ℕ) (bytes : List ℕ) (s : ParseState) (r : Result Source TextFault) : Type 0 where
  pub so : (column n : ℕ) → n + free ≤ 128 → reading (scan bytes 0 (record { line = line; column = column }) n) s ≡ r

-- bytes whose first is none of some
abbrev pub begins_no : (ℕ → Bool) → List ℕ → Bool
begins_no p [] = true
begins_no p (b ∷ bs) = not (p b)

-- the first token of the bytes, which do not make a word or a number before them longer
pub record Follows (bytes : List ℕ) (t : TokenKind) : Type 0 where
  pub first : (p : TextPlace) (n : ℕ) → kind_at (scan bytes 0 p n) ≡ Some t
  pub stops : begins_no is_word_byte bytes ≡ true

pub under : (n free : ℕ) → n + free ≤ 128 → 0 < free → nat_le 128 n ≡ false
under n free h g = grind (arith, nat_tests)

-- a token that can follow and is not past the limit is taken
pub took : (w : TokenKind) (past_limit : Bool) (p : TextPlace) (ts : List Token) (s n : ParseState) (r : Result Source TextFault) → past_limit ≡ false
    → step s p.line w ≡ Some n → reading ts n ≡ r → reading (record { kind = w; past_limit = past_limit; place = p } ∷ ts) s ≡ r
took w past_limit p ts s n r e f h = rw (f, e) h

pub joined : {line free : ℕ} {s : ParseState} {r : Result Source TextFault} (a b rest : List ℕ) → Reads line free (a ++ (b ++ rest)) s r
    → Reads line free ((a ++ b) ++ rest) s r
joined {line} {free} {s} {r} a b rest h = subst (λ (l : List ℕ). Reads line free l s r) (sym (append_assoc a b rest)) h

-- the token can be taken where so many operators are free, and leaves so many
pub record Room (t : TokenKind) (free remains : ℕ) : Type 0 where
  pub fits : (m : ℕ) → m + free ≤ 128 → is_past_limit t m ≡ false
  pub leaves : (m : ℕ) → m + free ≤ 128 → operators_up_to_token t m + remains ≤ 128

plain_fits : (t : TokenKind) (m : ℕ) → is_operator t ≡ false → is_past_limit t m ≡ false
plain_fits t m o = rw o refl

plain_counts : (t : TokenKind) (m : ℕ) → is_operator t ≡ false → starts_expression t ≡ false → operators_up_to_token t m ≡ m
plain_counts t m o b = rw (b, o) refl

border_counts : (t : TokenKind) (m : ℕ) → starts_expression t ≡ true → operators_up_to_token t m ≡ 0
border_counts t m b = rw b refl

sign_fits : (t : TokenKind) (m free : ℕ) → is_operator t ≡ true → 0 < free → m + free ≤ 128 → is_past_limit t m ≡ false
sign_fits t m free o h g = rw o (under m free g h)

sign_counts : (t : TokenKind) (m : ℕ) → is_operator t ≡ true → starts_expression t ≡ false → operators_up_to_token t m ≡ m + 1
sign_counts t m o b = rw (b, o) refl

pub plain_room : (t : TokenKind) (free : ℕ) → is_operator t ≡ false → starts_expression t ≡ false → Room t free free
plain_room t free o b = record { fits = λ m g. plain_fits t m o; leaves = λ m g. rw (plain_counts t m o b) g }

pub border_room : (t : TokenKind) (free : ℕ) → is_operator t ≡ false → starts_expression t ≡ true → Room t free 128
border_room t free o b = record { fits = λ m g. plain_fits t m o; leaves = λ m g. rw (border_counts t m b) (omega arith) }

pub punctuation_room : (t : TokenKind) (free remains : ℕ) → is_operator t ≡ true → starts_expression t ≡ false → remains < free → Room t free remains
punctuation_room t free remains o b h = record { fits = λ m g. sign_fits t m free o (omega arith) g; leaves = λ m g. rw (sign_counts t m o b) (omega arith) }

-- a space is passed
pub space_reads : {line free : ℕ} {s : ParseState} {r : Result Source TextFault} (rest : List ℕ) → Reads line free rest s r → Reads line free (32 ∷ rest) s r
space_reads rest d = record { so = λ column n g. d.so (column + 1) n g }

-- fewer operators need be free
pub weaker : {line : ℕ} {s : ParseState} {r : Result Source TextFault} (rest : List ℕ) (few many : ℕ) → few ≤ many → Reads line few rest s r
    → Reads line many rest s r
weaker rest few many h d = record { so = λ column n g. d.so column n (omega arith) }

-- a line ends
pub newline_reads : {line free : ℕ} {s : ParseState} {r : Result Source TextFault} (rest : List ℕ) → Reads (line + 1) free rest s r
    → Reads line free (10 ∷ rest) s r
newline_reads rest d = record { so = λ column n g. d.so 1 n g }
