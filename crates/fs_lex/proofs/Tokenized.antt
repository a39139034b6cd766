-- What the scan makes of bytes are their tokens.
use Rattle.std.proofs.Common.{◌≡◌, ℕ, zero, suc, ◌<◌, ◌≤◌, List, [], ◌∷◌, ◌++◌, length, take, drop, refl, sym, ap, subst, ◌∙◌, cond, inl, inr, append_assoc}
use Rattle.std.proofs.Common.{append-nil, arith, length-drop}
use Rattle.std.specs.Prelude.{Bool, true, false, ◌||◌, ◌⊎◌, ◌==◌, IsTrue, Option, Some, None}
use Rattle.std.specs.List.{list_all, prefix_len}
use Rattle.std.proofs.lemmas.Bool.{eqb-true, not-false}
use Rattle.std.proofs.lemmas.List.{take-append-drop, length-take-le}
use Rattle.fs_model.proofs.Lists.{prefix_len_more}
use Rattle.fs_model.specs.Words.{is_letter, is_digit, is_word_byte}
use Rattle.fs_grammar.specs.declared.fault.TextPlace.{TextPlace}
use Rattle.fs_grammar.specs.declared.token.TokenKind.{TokenKind}
use Rattle.fs_grammar.specs.declared.token.TokenKind.TheVariants.{Bad, End}
use Rattle.fs_grammar.specs.declared.token.Token.{Token}
use Rattle.fs_lex.specs.declared.lexemes.Lexeme.{Lexeme}
use Rattle.fs_lex.specs.declared.lexemes.Lexeme.TheVariants as lexemes
use Rattle.fs_lex.specs.Lexemes.{is_space, is_in_comment, word_token, number_token, double_punctuation, longest, punctuation_of, lexeme_of}
use Rattle.fs_lex.specs.Scan.{place_after_bytes, scan, is_past_limit, is_bad, operators_up_to_token, tokens_of}
use Rattle.fs_lex.specs.Tokenization.{place_behind, StandsBefore, IsGap, nothing, blank, comment, IsLastGap, gap, open_comment, IsGapBefore, IsNextToken}
use Rattle.fs_lex.specs.Tokenization.{ends_text, AreTokens}
use Rattle.fs_lex.proofs.Scans.{blank_scans, token_scans}
use Rattle.fs_lex.proofs.Places.{moved_behind}
use Rattle.fs_lex.proofs.Standing.{StopsAt, IsRun, run, word_stands, number_stands, IsOther, one_stands, first_stands, both_stand}

-- ---- one lexeme

-- one blank, or a comment up to the LF that ends it
abbrev IsBlank : List ℕ → List ℕ → Type 0
IsBlank own rest = ((b : ℕ) × (own ≡ b ∷ []) × IsTrue (is_space b))
    ⊎ ((text : List ℕ) × (own ≡ 35 ∷ text) × IsTrue (list_all is_in_comment text) × StopsAt is_in_comment rest)

abbrev IsRead : List ℕ → Lexeme → Type 0
IsRead bs (lexemes.Blank n) = (0 < n) × (n ≤ length bs) × IsBlank (take n bs) (drop n bs)
IsRead bs (lexemes.Token t n) = (0 < n) × (n ≤ length bs) × StandsBefore t (take n bs) (drop n bs)

record Reads (bs : List ℕ) (l : Lexeme) : Type 0 where
  is : IsRead bs l

choose : (b : Bool) (bs : List ℕ) (l m : Lexeme) → (b ≡ true → Reads bs l) → (b ≡ false → Reads bs m) → Reads bs (cond b l m)
choose true bs l m f g = f refl
choose false bs l m f g = g refl

take_all : (n : ℕ) (b : ℕ) (bs : List ℕ) (m : ℕ) → n ≡ suc m → take n (b ∷ bs) ≡ b ∷ take m bs
take_all n b bs m e = ap (λ (k : ℕ). take k (b ∷ bs)) e

word_read : (b : ℕ) (bs : List ℕ) → is_letter b ≡ true
    → Reads (b ∷ bs) (lexemes.Token (word_token (take (prefix_len is_word_byte (b ∷ bs)) (b ∷ bs))) (prefix_len is_word_byte (b ∷ bs)))
word_read b bs e =
    let m = prefix_len is_word_byte bs in
    let n : prefix_len is_word_byte (b ∷ bs) ≡ suc m = prefix_len_more is_word_byte b bs (ap (λ (x : Bool). x || is_digit b) e) in
    let r : IsRun is_word_byte bs m = run is_word_byte bs in
    subst (λ (k : ℕ). Reads (b ∷ bs) (lexemes.Token (word_token (take k (b ∷ bs))) k)) (sym n)
    (record { is = (omega arith, omega (arith, r.fits), word_stands b (take m bs) (drop m bs) e r.passes r.stops) })

number_read : (d : ℕ) (bs : List ℕ) → is_letter d ≡ false → is_digit d ≡ true
    → Reads (d ∷ bs) (lexemes.Token (number_token (take (prefix_len is_digit (d ∷ bs)) (d ∷ bs))) (prefix_len is_digit (d ∷ bs)))
number_read d bs l e =
    let m = prefix_len is_digit bs in
    let n : prefix_len is_digit (d ∷ bs) ≡ suc m = prefix_len_more is_digit d bs e in
    let r : IsRun is_digit bs m = run is_digit bs in
    subst (λ (k : ℕ). Reads (d ∷ bs) (lexemes.Token (number_token (take k (d ∷ bs))) k)) (sym n)
    (record { is = (omega arith, omega (arith, r.fits), number_stands d (take m bs) (drop m bs) l e r.passes r.stops) })

comment_read : (b : ℕ) (bs : List ℕ) → (b == 35) ≡ true → Reads (b ∷ bs) (lexemes.Blank (prefix_len is_in_comment (b ∷ bs)))
comment_read b bs e =
    let m = prefix_len is_in_comment bs in
    let same : b ≡ 35 = eqb-true b 35 e in
    let inside : is_in_comment b ≡ true = ap is_in_comment same in
    let n : prefix_len is_in_comment (b ∷ bs) ≡ suc m = prefix_len_more is_in_comment b bs inside in
    let r : IsRun is_in_comment bs m = run is_in_comment bs in
    subst (λ (k : ℕ). Reads (b ∷ bs) (lexemes.Blank k)) (sym n)
    (record { is = (omega arith, omega (arith, r.fits), inr (take m bs, ap (λ (x : ℕ). x ∷ take m bs) same, r.passes, r.stops)) })

longest_read : (b c : ℕ) (bs : List ℕ) (o : Option TokenKind) → IsOther b → double_punctuation b c ≡ o → Reads (b ∷ c ∷ bs) (longest o b)
longest_read b c bs (Some t) i e = record { is = (omega arith, omega arith, both_stand b c bs t i e) }
longest_read b c bs None i e = record { is = (omega arith, omega arith, first_stands b c bs i e) }

punctuation_read : (b : ℕ) (bs : List ℕ) → IsOther b → Reads (b ∷ bs) (punctuation_of (b ∷ bs))
punctuation_read b [] i = record { is = (omega arith, omega arith, one_stands b i) }
punctuation_read b (c ∷ bs) i = longest_read b c bs (double_punctuation b c) i refl

lexeme_read : (b : ℕ) (bs : List ℕ) → Reads (b ∷ bs) (lexeme_of (b ∷ bs))
lexeme_read b bs =
    let all : List ℕ = b ∷ bs in
    let word = lexemes.Token (word_token (take (prefix_len is_word_byte all) all)) (prefix_len is_word_byte all) in
    let number = lexemes.Token (number_token (take (prefix_len is_digit all) all)) (prefix_len is_digit all) in
    let remark = lexemes.Blank (prefix_len is_in_comment all) in
    let from_digit = cond (is_digit b) number (punctuation_of all) in
    let from_letter = cond (is_letter b) word from_digit in
    choose (is_space b) all (lexemes.Blank 1) (cond (b == 35) remark from_letter)
    (λ space. record { is = (omega arith, omega arith, inl (b, refl, space)) }) (λ no_space.
    choose (b == 35) all remark from_letter (comment_read b bs) (λ no_comment.
    choose (is_letter b) all word from_digit (word_read b bs) (λ no_letter.
    choose (is_digit b) all number (punctuation_of all) (number_read b bs no_letter) (λ no_digit.
    punctuation_read b bs (record { blank = no_space; comment = no_comment; letter = no_letter; digit = no_digit })))))

-- ---- gaps

gap_more : {a : List ℕ} (b : List ℕ) → IsGap a → IsGap b → IsGap (a ++ b)
gap_more b nothing h = h
gap_more b (blank x s g) h = blank x s (gap_more b g h)
gap_more b (comment text {bs} s g) h = subst IsGap (ap (λ (xs : List ℕ). 35 ∷ xs) (sym (append_assoc text (10 ∷ bs) b))) (comment text s (gap_more b g h))

gap_before : (t : TokenKind) (bs : List ℕ) → IsGap bs → IsGapBefore t bs
gap_before End bs g = gap g
gap_before _ bs g = g

-- a token with bytes ends the text exactly where it is bad
ends_as_bad : (t : TokenKind) (own rest : List ℕ) → StandsBefore t own rest → 0 < length own → ends_text t ≡ is_bad t
ends_as_bad End own rest h l = absurd (omega (arith, ap length h.0))
ends_as_bad (Bad flaw) own rest h l = refl
ends_as_bad _ own rest h l = refl

-- ---- the scan

abbrev token_at : TokenKind → ℕ → TextPlace → Token
token_at t n p = record { kind = t; past_limit = is_past_limit t n; place = p }

abbrev end_at : TextPlace → Token
end_at p = record { kind = End; past_limit = false; place = p }

ended : (front bytes : List ℕ) → IsLastGap bytes → AreTokens front bytes (end_at (place_behind (front ++ bytes)) ∷ [])
ended front bytes g = (record { gap = bytes; own = []; rest = []; bytes_are = sym (append-nil bytes); between = g; stands = (refl, refl); place = refl }, refl)

more_tokens : (front bytes : List ℕ) (t : Token) (ts : List Token) (n : IsNextToken front bytes t) → ends_text t.kind ≡ false
    → AreTokens (front ++ (n.gap ++ n.own)) n.rest ts → AreTokens front bytes (t ∷ ts)
more_tokens front bytes t [] n e h = absurd h
more_tokens front bytes t (u ∷ ts) n e h = (n, e, h)

next_token_begins_tokens : (b : Bool) (front bytes : List ℕ) (t : Token) (ts : List Token) (n : IsNextToken front bytes t) → ends_text t.kind ≡ b
    → (b ≡ false → AreTokens (front ++ (n.gap ++ n.own)) n.rest ts) → AreTokens front bytes (t ∷ cond b [] ts)
next_token_begins_tokens true front bytes t ts n e f = (n, e)
next_token_begins_tokens false front bytes t ts n e f = more_tokens front bytes t ts n e (f refl)

line_feed : (c : ℕ) → is_in_comment c ≡ false → c ≡ 10
line_feed c e = eqb-true c 10 (not-false (c == 10) e)

-- the tokens of what is left, where a gap has been passed behind the front
abbrev From : List ℕ → List ℕ → List ℕ → ℕ → Type 0
From front passed bs operators = AreTokens front (passed ++ bs) (scan bs 0 (place_behind (front ++ passed)) operators)

ended_from : (front passed : List ℕ) (operators : ℕ) → IsLastGap passed → From front passed [] operators
ended_from front passed operators g = subst (λ (xs : List ℕ). AreTokens front xs (end_at (place_behind (front ++ passed)) ∷ [])) (sym (append-nil passed))
    (ended front passed g)

blank_step : (bs : List ℕ) (k : ℕ) (front passed : List ℕ) (operators : ℕ) → lexeme_of bs ≡ lexemes.Blank k → 0 < k → k ≤ length bs
    → From front (passed ++ take k bs) (drop k bs) operators → From front passed bs operators
blank_step bs k front passed operators l some fits h =
    let own = take k bs in
    let rest = drop k bs in
    let p = place_behind (front ++ passed) in
    let place : place_behind (front ++ (passed ++ own)) ≡ place_after_bytes p own =
    sym (moved_behind (front ++ passed) own ∙ ap place_behind (append_assoc front passed own)) in
    let bytes : (passed ++ own) ++ rest ≡ passed ++ bs = append_assoc passed own rest ∙ ap (λ (xs : List ℕ). passed ++ xs) (take-append-drop k bs) in
    let here : AreTokens front (passed ++ bs) (scan rest 0 (place_behind (front ++ (passed ++ own))) operators) =
    subst (λ (xs : List ℕ). AreTokens front xs (scan rest 0 (place_behind (front ++ (passed ++ own))) operators)) bytes h in
    let moved_here : AreTokens front (passed ++ bs) (scan rest 0 (place_after_bytes p own) operators) =
    subst (λ (q : TextPlace). AreTokens front (passed ++ bs) (scan rest 0 q operators)) place here in
    subst (λ (ts : List Token). AreTokens front (passed ++ bs) ts) (sym (blank_scans bs k p operators l some fits)) moved_here

comment_step : (n : ℕ) → ((bs : List ℕ) → length bs ≤ n → (front passed : List ℕ) (operators : ℕ) → IsGap passed → From front passed bs operators)
    → (rest : List ℕ) → length rest ≤ n → (front passed : List ℕ) (operators : ℕ) (text : List ℕ) → IsGap passed → IsTrue (list_all is_in_comment text)
    → StopsAt is_in_comment rest → From front (passed ++ 35 ∷ text) rest operators
comment_step n go [] l front passed operators text g s stop = ended_from front (passed ++ 35 ∷ text) operators (open_comment text g s)
comment_step n go (c ∷ cs) l front passed operators text g s stop =
    let whole : IsGap (passed ++ (35 ∷ (text ++ 10 ∷ []))) = gap_more (35 ∷ (text ++ 10 ∷ [])) g (comment text s nothing) in
    let closed : IsGap ((passed ++ 35 ∷ text) ++ 10 ∷ []) = subst IsGap (sym (append_assoc passed (35 ∷ text) (10 ∷ []))) whole in
    let behind : From front ((passed ++ 35 ∷ text) ++ 10 ∷ []) cs operators = go cs (omega arith) front ((passed ++ 35 ∷ text) ++ 10 ∷ []) operators closed in
    let here : From front (passed ++ 35 ∷ text) (10 ∷ cs) operators =
    blank_step (10 ∷ cs) 1 front (passed ++ 35 ∷ text) operators refl (omega arith) (omega arith) behind in
    subst (λ (x : ℕ). From front (passed ++ 35 ∷ text) (x ∷ cs) operators) (sym (line_feed c stop)) here

token_step : (n : ℕ) → ((bs : List ℕ) → length bs ≤ n → (front passed : List ℕ) (operators : ℕ) → IsGap passed → From front passed bs operators)
    → (bs : List ℕ) (t : TokenKind) (k : ℕ) (front passed : List ℕ) (operators : ℕ) → lexeme_of bs ≡ lexemes.Token t k → 0 < k → k ≤ length bs
    → length bs ≤ suc n → StandsBefore t (take k bs) (drop k bs) → IsGap passed → From front passed bs operators
token_step n go bs t k front passed operators l some fits few stands g =
    let own = take k bs in
    let rest = drop k bs in
    let p = place_behind (front ++ passed) in
    let next : IsNextToken front (passed ++ bs) (token_at t operators p) =
    record {
      gap = passed;
      own = own;
      rest = rest;
      bytes_are = ap (λ (xs : List ℕ). passed ++ xs) (sym (take-append-drop k bs));
      between = gap_before t passed g;
      stands = stands;
      place = refl;
    } in
    let behind : List ℕ = front ++ (passed ++ own) in
    let place : place_behind (behind ++ []) ≡ place_after_bytes p own =
    sym (moved_behind (front ++ passed) own ∙ ap place_behind (append_assoc front passed own) ∙ ap place_behind (sym (append-nil behind))) in
    let shorter : length rest ≤ n = omega (arith, length-drop k bs) in
    let owned : 0 < length own = omega (arith, length-take-le k bs fits) in
    let others : AreTokens behind rest (scan rest 0 (place_after_bytes p own) (operators_up_to_token t operators)) =
    subst (λ (q : TextPlace). AreTokens behind rest (scan rest 0 q (operators_up_to_token t operators))) place
    (go rest shorter behind [] (operators_up_to_token t operators) nothing) in
    subst (λ (ts : List Token). AreTokens front (passed ++ bs) ts) (sym (token_scans bs t k p operators l some fits))
    (next_token_begins_tokens (is_bad t) front (passed ++ bs) (token_at t operators p)
    (scan rest 0 (place_after_bytes p own) (operators_up_to_token t operators)) next
    (ends_as_bad t own rest stands owned) (λ good. others))

blank_read : (n : ℕ) → ((bs : List ℕ) → length bs ≤ n → (front passed : List ℕ) (operators : ℕ) → IsGap passed → From front passed bs operators)
    → (bs : List ℕ) (k : ℕ) (front passed : List ℕ) (operators : ℕ) → lexeme_of bs ≡ lexemes.Blank k → 0 < k → k ≤ length bs → length bs ≤ suc n → IsGap passed
    → IsBlank (take k bs) (drop k bs) → From front passed bs operators
blank_read n go bs k front passed operators l some fits few g (inl (b, own, space)) =
    let shorter : length (drop k bs) ≤ n = omega (arith, length-drop k bs) in
    let more : IsGap (passed ++ take k bs) = subst (λ (xs : List ℕ). IsGap (passed ++ xs)) (sym own) (gap_more (b ∷ []) g (blank b space nothing)) in
    blank_step bs k front passed operators l some fits (go (drop k bs) shorter front (passed ++ take k bs) operators more)
blank_read n go bs k front passed operators l some fits few g (inr (text, own, inside, stop)) =
    let shorter : length (drop k bs) ≤ n = omega (arith, length-drop k bs) in
    let behind : From front (passed ++ take k bs) (drop k bs) operators =
    subst (λ (xs : List ℕ). From front (passed ++ xs) (drop k bs) operators) (sym own)
    (comment_step n go (drop k bs) shorter front passed operators text g inside stop) in
    blank_step bs k front passed operators l some fits behind

lexeme_step : (n : ℕ) → ((bs : List ℕ) → length bs ≤ n → (front passed : List ℕ) (operators : ℕ) → IsGap passed → From front passed bs operators)
    → (bs : List ℕ) → length bs ≤ suc n → (front passed : List ℕ) (operators : ℕ) → IsGap passed → (l : Lexeme) → lexeme_of bs ≡ l → IsRead bs l
    → From front passed bs operators
lexeme_step n go bs few front passed operators g (lexemes.Blank k) e r = blank_read n go bs k front passed operators e r.0 r.1 few g r.2
lexeme_step n go bs few front passed operators g (lexemes.Token t k) e r = token_step n go bs t k front passed operators e r.0 r.1 few r.2 g

from_here : (n : ℕ) (bs : List ℕ) → length bs ≤ n → (front passed : List ℕ) (operators : ℕ) → IsGap passed → From front passed bs operators
from_here n [] few front passed operators g = ended_from front passed operators (gap g)
from_here zero (b ∷ bs) few front passed operators g = absurd (omega arith)
from_here (suc n) (b ∷ bs) few front passed operators g = lexeme_step n (from_here n)
    (b ∷ bs) few front passed operators g (lexeme_of (b ∷ bs)) refl (lexeme_read b bs).is

-- the scan gives the tokens of the bytes
pub tokenized : (bytes : List ℕ) → AreTokens [] bytes (tokens_of bytes)
tokenized bytes = from_here (length bytes) bytes (omega arith) [] [] 0 nothing
