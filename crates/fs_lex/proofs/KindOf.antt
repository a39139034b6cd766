-- A token's kind is determined by its bytes.
use Rattle.std.proofs.Common.{◌≡◌, ℕ, ◌^◌, ◌<◌, ◌≤◌, List, [], ◌∷◌, ◌++◌, length, refl, sym, ap, ◌∙◌, cond, inl, inr, arith}
use Rattle.std.specs.Prelude.{pos, Bool, true, false, not, ◌&&◌, ◌||◌, ◌⊎◌, nat_le, nat_lt, IsTrue, Option, Some, None, is_some}
use Rattle.std.proofs.lemmas.Bool.{not-true, and_parts}
use Rattle.fs_model.specs.Limits.{most_number}
use Rattle.fs_model.specs.Words.{is_letter, is_digit, is_word, is_name, is_reserved}
use Rattle.fs_grammar.specs.declared.token.TokenKind.{TokenKind}
use Rattle.fs_grammar.specs.declared.token.TokenKind.TheVariants.{Name, Number, Bad, End}
use Rattle.fs_grammar.specs.declared.token.Flaw.TheVariants as flaws
use Rattle.fs_lex.specs.Lexemes.{name_or_bad}
use Rattle.fs_lex.specs.Vocabulary.{reserved_tokens, double_tokens, single_tokens, reserved_kind, punctuation_kind, is_number, number_value, is_lexeme}
use Rattle.fs_lex.specs.Tokenization.{BeginsNothing, StandsBefore}
use Rattle.fs_lex.proofs.Tables.{false_unless, none_unless, so_of_key}
use Rattle.fs_lex.proofs.Standing.{letter_no_digit, reserved_tells}

abbrev punctuation_or_bad : Option TokenKind → TokenKind
punctuation_or_bad (Some t) = t
punctuation_or_bad None = Bad flaws.Byte

abbrev number_or_bad : ℕ → TokenKind
number_or_bad n = cond (nat_lt n (2 ^ 127)) (Number (pos n)) (Bad flaws.Number)

-- the kind of a token with these bytes
abbrev pub spelled : List ℕ → TokenKind
spelled own = cond (is_word own) (name_or_bad own (reserved_kind own))
    (cond (is_number own) (number_or_bad (number_value own)) (punctuation_or_bad (punctuation_kind own)))

word_spelled : (own : List ℕ) → is_word own ≡ true → spelled own ≡ name_or_bad own (reserved_kind own)
word_spelled own e =
    ap
    (λ (b : Bool). cond b (name_or_bad own (reserved_kind own))
    (cond (is_number own) (number_or_bad (number_value own)) (punctuation_or_bad (punctuation_kind own)))) e

other_spelled : (own : List ℕ) → is_word own ≡ false
    → spelled own ≡ cond (is_number own) (number_or_bad (number_value own)) (punctuation_or_bad (punctuation_kind own))
other_spelled own e =
    ap
    (λ (b : Bool). cond b (name_or_bad own (reserved_kind own))
    (cond (is_number own) (number_or_bad (number_value own)) (punctuation_or_bad (punctuation_kind own)))) e

-- ---- words

none_of : (o : Option TokenKind) → is_some o ≡ false → o ≡ None
none_of (Some t) e = absurd cc
none_of None e = refl

kind_of_word : (own : List ℕ) (o : Option TokenKind) → is_word own ≡ true → reserved_kind own ≡ o → spelled own ≡ name_or_bad own o
kind_of_word own o w e = word_spelled own w ∙ ap (name_or_bad own) e

pub name_spelled : (own : List ℕ) → IsTrue (is_name own) → spelled own ≡ Name own
name_spelled own n =
    let two = and_parts (is_word own && nat_le (length own) 32) (not (is_reserved own)) n in
    let word = (and_parts (is_word own) (nat_le (length own) 32) two.0).0 in
    let free : reserved_kind own ≡ None = none_of (reserved_kind own) (sym (reserved_tells own) ∙ not-true (is_reserved own) two.1) in
    kind_of_word own None word free ∙ ap (λ (b : Bool). cond b (Name own) (Bad flaws.Word)) n

above_32_is_not_within : (n : ℕ) → 32 < n → nat_le n 32 ≡ true → ⊥
above_32_is_not_within n h e = grind (arith, h, e)

pub long_spelled : (own : List ℕ) → IsTrue (is_word own) → 32 < length own → spelled own ≡ Bad flaws.Word
long_spelled own w h =
    let free : reserved_kind own ≡ None =
    none_unless (reserved_kind own) (λ t q. above_32_is_not_within (length own) h
    (so_of_key (λ (k : List ℕ). nat_le (length k) 32) reserved_tokens own t refl q)) in
    let no_name : is_name own ≡ false =
    false_unless (is_name own)
    (λ n. above_32_is_not_within (length own) h
    (and_parts (is_word own) (nat_le (length own) 32) (and_parts (is_word own && nat_le (length own) 32) (not (is_reserved own)) n).0).1) in
    kind_of_word own None w free ∙ ap (λ (b : Bool). cond b (Name own) (Bad flaws.Word)) no_name

pub reserved_spelled : (own : List ℕ) (t : TokenKind) → reserved_kind own ≡ Some t → spelled own ≡ t
reserved_spelled own t e = kind_of_word own (Some t) (so_of_key is_word reserved_tokens own t refl e) e

-- ---- numbers

digit_no_letter : (d : ℕ) → is_digit d ≡ true → is_letter d ≡ false
digit_no_letter d e =
    false_unless (is_letter d) (λ l.
    let two : true ≡ false = sym e ∙ letter_no_digit d l in
    cc)

number_no_word : (own : List ℕ) → is_number own ≡ true → is_word own ≡ false
number_no_word [] e = refl
number_no_word (d ∷ ds) e =
    false_unless (is_word (d ∷ ds)) (λ w.
    let digit = (and_parts (is_digit d) _ e).0 in
    let two : true ≡ false = sym (and_parts (is_letter d) _ w).0 ∙ digit_no_letter d digit in
    cc)

kind_of_number : (own : List ℕ) (b : Bool) → IsTrue (is_number own) → nat_lt (number_value own) (2 ^ 127) ≡ b
    → spelled own ≡ cond b (Number (pos (number_value own))) (Bad flaws.Number)
kind_of_number own b n e =
    other_spelled own (number_no_word own n) ∙ ap (λ (b : Bool). cond b (number_or_bad (number_value own)) (punctuation_or_bad (punctuation_kind own))) n
    ∙ ap (λ (b : Bool). cond b (Number (pos (number_value own))) (Bad flaws.Number)) e

is_less : (n : ℕ) → n ≤ most_number → nat_lt n (2 ^ 127) ≡ true
is_less n h = grind (arith, h)

is_not_less : (n : ℕ) → most_number < n → nat_lt n (2 ^ 127) ≡ false
is_not_less n h = grind (arith, h)

pub number_spelled : (own : List ℕ) → IsTrue (is_number own) → number_value own ≤ most_number → spelled own ≡ Number (pos (number_value own))
number_spelled own n h = kind_of_number own true n (is_less (number_value own) h)

pub large_spelled : (own : List ℕ) → IsTrue (is_number own) → most_number < number_value own → spelled own ≡ Bad flaws.Number
large_spelled own n h = kind_of_number own false n (is_not_less (number_value own) h)

-- ---- punctuation

pub punctuation_spelled : (own : List ℕ) (t : TokenKind) → punctuation_kind own ≡ Some t → spelled own ≡ t
punctuation_spelled own t e =
    let no_word = not-true (is_word own) (so_of_key (λ (k : List ℕ). not (is_word k)) (double_tokens ++ single_tokens) own t refl e) in
    let no_number = not-true (is_number own) (so_of_key (λ (k : List ℕ). not (is_number k)) (double_tokens ++ single_tokens) own t refl e) in
    other_spelled own no_word ∙ ap (λ (b : Bool). cond b (number_or_bad (number_value own)) (punctuation_or_bad (punctuation_kind own))) no_number
    ∙ ap punctuation_or_bad e

no_three : (a b : Bool) (o : Option TokenKind) → (a || b || is_some o) ≡ false → (a ≡ false) × (b ≡ false) × (o ≡ None)
no_three true b o e = absurd cc
no_three false true o e = absurd cc
no_three false false (Some t) e = absurd cc
no_three false false None e = (refl, refl, refl)

pub bad_spelled : (own : List ℕ) → is_lexeme own ≡ false → spelled own ≡ Bad flaws.Byte
bad_spelled own e =
    let three = no_three (is_word own) (is_number own) (punctuation_kind own) e in
    other_spelled own three.0 ∙ ap (λ (b : Bool). cond b (number_or_bad (number_value own)) (punctuation_or_bad (punctuation_kind own))) three.1
    ∙ ap punctuation_or_bad three.2

-- ---- tokens

fixed_spelled : (t : TokenKind) (own : List ℕ) → (reserved_kind own ≡ Some t) ⊎ (punctuation_kind own ≡ Some t) → spelled own ≡ t
fixed_spelled t own (inl e) = reserved_spelled own t e
fixed_spelled t own (inr e) = punctuation_spelled own t e

byte_spelled : (own rest : List ℕ) (b : ℕ) → own ≡ b ∷ [] → BeginsNothing b rest → spelled own ≡ Bad flaws.Byte
byte_spelled own rest b e n = bad_spelled own (ap is_lexeme e ∙ n.lexeme [] rest refl)

-- the kind of a token that stands before the rest is that of its bytes
pub kind_spelled : (t : TokenKind) (own rest : List ℕ) → StandsBefore t own rest → 0 < length own → spelled own ≡ t
kind_spelled (Name x) own rest h l = name_spelled own h.1 ∙ ap Name (sym h.0)
kind_spelled (Number n) own rest h l = number_spelled own h.0 h.2 ∙ ap Number (sym h.1)
kind_spelled (Bad flaws.Word) own rest h l = long_spelled own h.0 h.1
kind_spelled (Bad flaws.Number) own rest h l = large_spelled own h.0 h.1
kind_spelled (Bad flaws.Byte) own rest h l = byte_spelled own rest h.0 h.1 h.2
kind_spelled End own rest h l = absurd (omega (arith, ap length h.0))
kind_spelled t own rest h l = fixed_spelled t own h.0
