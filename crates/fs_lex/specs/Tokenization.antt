-- The tokens of a text, said of its bytes: where each stands, and what stands between them.
use Rattle.std.specs.Prelude.{◌≡◌, ℕ, ◌+◌, ◌<◌, ◌≤◌, ◌==◌, pos, ◌⊎◌, Bool, true, false, not, IsTrue, Some, List, [], ◌∷◌, ◌++◌}
use Rattle.std.specs.Prelude.{length, reverse}
use Rattle.std.specs.List.{list_all, count_by, prefix_len}
use Rattle.fs_model.specs.Limits.{most_name_bytes, most_number}
use Rattle.fs_model.specs.Words.{is_word, is_name}
use Rattle.fs_grammar.specs.declared.fault.TextPlace.{TextPlace}
use Rattle.fs_grammar.specs.declared.token.Flaw.TheVariants as flaws
use Rattle.fs_grammar.specs.declared.token.TokenKind.{TokenKind}
use Rattle.fs_grammar.specs.declared.token.TokenKind.TheVariants.{Name, Number, Bad, End}
use Rattle.fs_grammar.specs.declared.token.Token.{Token}
use Rattle.fs_lex.specs.Lexemes.{is_space, is_in_comment}
use Rattle.fs_lex.specs.Vocabulary.{reserved_kind, punctuation_kind, is_number, number_value, is_lexeme}

-- the place behind these bytes: its line is 1 plus the LFs among them, its column 1 plus the bytes after the last LF
abbrev pub place_behind : List ℕ → TextPlace
place_behind front = record {
  line = 1 + count_by (λ b. b == 10) front;
  column = 1 + prefix_len (λ b. not (b == 10)) (reverse front);
}

-- a lexeme that no more of the bytes behind it make longer
pub record IsLongest (own rest : List ℕ) : Type 0 where
  pub is : IsTrue (is_lexeme own)
  pub no_longer : (b : ℕ) (more later : List ℕ) → rest ≡ b ∷ (more ++ later) → is_lexeme (own ++ b ∷ more) ≡ false

-- a byte with which no lexeme, blank or comment begins
pub record BeginsNothing (b : ℕ) (rest : List ℕ) : Type 0 where
  pub blank : is_space b ≡ false
  pub comment : (b == 35) ≡ false
  pub lexeme : (more later : List ℕ) → rest ≡ more ++ later → is_lexeme (b ∷ more) ≡ false

-- a token of this kind stands before the rest, and these are its bytes
abbrev pub StandsBefore : TokenKind → List ℕ → List ℕ → Type 0
StandsBefore (Name x) own rest = (x ≡ own) × IsTrue (is_name own) × IsLongest own rest
StandsBefore (Number n) own rest = IsTrue (is_number own) × (n ≡ pos (number_value own)) × (number_value own ≤ most_number)
    × IsLongest own rest
StandsBefore (Bad flaws.Word) own rest = IsTrue (is_word own) × (most_name_bytes < length own) × IsLongest own rest
StandsBefore (Bad flaws.Number) own rest = IsTrue (is_number own) × (most_number < number_value own) × IsLongest own rest
StandsBefore (Bad flaws.Byte) own rest = (b : ℕ) × (own ≡ b ∷ []) × BeginsNothing b rest
StandsBefore End own rest = (own ≡ []) × (rest ≡ [])
StandsBefore t own rest = ((reserved_kind own ≡ Some t) ⊎ (punctuation_kind own ≡ Some t)) × IsLongest own rest

-- blanks and comments, each comment with the LF that ends it
pub data IsGap : List ℕ → Type 0 where
  nothing : IsGap []
  blank : (b : ℕ) {bs : List ℕ} → IsTrue (is_space b) → IsGap bs → IsGap (b ∷ bs)
  comment : (text : List ℕ) {bs : List ℕ} → IsTrue (list_all is_in_comment text) → IsGap bs → IsGap (35 ∷ (text ++ 10 ∷ bs))

-- what stands before the end of the bytes: a gap, and perhaps a comment that no LF ends
pub data IsLastGap : List ℕ → Type 0 where
  gap : {bs : List ℕ} → IsGap bs → IsLastGap bs
  open_comment : {bs : List ℕ} (text : List ℕ) → IsGap bs → IsTrue (list_all is_in_comment text) → IsLastGap (bs ++ 35 ∷ text)

-- what stands before a token of this kind
abbrev pub IsGapBefore : TokenKind → List ℕ → Type 0
IsGapBefore End bs = IsLastGap bs
IsGapBefore _ bs = IsGap bs

-- the next token of the bytes that stand behind the front
pub record IsNextToken (front bytes : List ℕ) (t : Token) : Type 0 where
  pub gap : List ℕ
  pub own : List ℕ
  pub rest : List ℕ
  pub bytes_are : bytes ≡ gap ++ (own ++ rest)
  pub between : IsGapBefore t.kind gap
  pub stands : StandsBefore t.kind own rest
  pub place : t.place ≡ place_behind (front ++ gap)

-- a token after which nothing is read: the end of the bytes, or no token of the language
abbrev pub ends_text : TokenKind → Bool
ends_text (Bad flaw) = true
ends_text End = true
ends_text _ = false

-- the tokens of the bytes that stand behind the front
abbrev pub AreTokens : List ℕ → List ℕ → List Token → Type 0
AreTokens front bytes [] = ⊥
AreTokens front bytes (t ∷ []) = IsNextToken front bytes t × IsTrue (ends_text t.kind)
AreTokens front bytes (t ∷ u ∷ ts) = (n : IsNextToken front bytes t) × (ends_text t.kind ≡ false)
    × AreTokens (front ++ (n.gap ++ n.own)) n.rest (u ∷ ts)

-- a token of the bytes: they are a front, its own bytes and a rest, and its place is behind the front
pub record IsTokenIn (bytes : List ℕ) (t : Token) : Type 0 where
  pub front : List ℕ
  pub own : List ℕ
  pub rest : List ℕ
  pub bytes_are : bytes ≡ front ++ (own ++ rest)
  pub stands : StandsBefore t.kind own rest
  pub place : t.place ≡ place_behind front

-- a token without its mark
abbrev pub kind_and_place : Token → TokenKind × TextPlace
kind_and_place t = (t.kind, t.place)
