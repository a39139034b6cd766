-- Names and numbers are read as one token.
use Rattle.std.proofs.Common.{◌≡◌, ℕ, ◌+◌, ◌/◌, ◌%◌, ◌^◌, ◌<◌, ◌≤◌, ◌==◌, Bool, true, false, not, ◌&&◌, ◌||◌, cond, List, [], ◌∷◌, ◌++◌, length, take, Option}
use Rattle.std.proofs.Common.{Some, None, Result, pos, refl, ◌∙◌, ap, ap₂, lit<, nat_le, nat_lt, arith, decimal, length-append}
use Rattle.std.proofs.Math.Seq.{take-append_seam, drop-append_seam}
use Rattle.std.proofs.lemmas.Bool.Decides.{nat_tests}
use Rattle.std.proofs.lemmas.List.Folds.{list_all-append}
use Rattle.std.proofs.lemmas.List.Sums.{fold-append}
use Rattle.std.proofs.Math.Nat.{lt_trans}
use Rattle.std.proofs.lemmas.Fmt.{decimal_by_steps_wide}
use Rattle.std.specs.List.{prefix_len, list_all}
use Rattle.std.proofs.lemmas.Bool.{and_parts, not-true, lt-ltb}
use Rattle.fs_model.specs.Digits.{with_digit, value_of_digits}
use Rattle.fs_model.specs.Words.{is_letter, is_digit, is_word_byte, is_word, is_reserved, is_name}
use Rattle.fs_model.specs.declared.parts.Role.TheVariants.{Input, Output, Local}
use Rattle.fs_model.specs.Source.{Source}
use Rattle.fs_model.proofs.Words.{digits_are_word_bytes}
use Rattle.fs_grammar.specs.declared.fault.TextPlace.{TextPlace}
use Rattle.fs_grammar.specs.declared.fault.TextFault.{TextFault}
use Rattle.fs_grammar.specs.declared.token.TokenKind.{TokenKind}
use Rattle.fs_grammar.specs.declared.token.TokenKind.TheVariants.{Fsmd, Declare, Array, Reset, State, When, Goto, Start, Done, Emit, Port, Name, Number, Bad}
use Rattle.fs_grammar.specs.declared.token.Flaw.TheVariants as flaws
use Rattle.fs_grammar.specs.declared.token.Token.{Token}
use Rattle.fs_grammar.specs.Grammar.{ParseState, step, reading}
use Rattle.fs_lex.specs.declared.lexemes.Lexeme.{Lexeme}
use Rattle.fs_lex.specs.declared.lexemes.Lexeme.TheVariants as lexemes
use Rattle.fs_lex.specs.Lexemes.{is_space, keyword_of, name_or_bad, word_token, number_token, lexeme_of}
use Rattle.fs_lex.specs.Scan.{place_after_bytes, scan, is_past_limit, is_bad, operators_up_to_token}
use Rattle.fs_lex.proofs.Scans.{token_scans}
use Rattle.fs_write.proofs.Steps.{Reads, begins_no, took, Room, plain_room}

-- ---- bytes

letter_begins : (b : ℕ) → is_letter b ≡ true → (is_space b ≡ false) × ((b == 35) ≡ false)
letter_begins b h = (grind (arith, nat_tests), grind (arith, nat_tests))

digit_begins : (b : ℕ) → is_digit b ≡ true → (is_space b ≡ false) × ((b == 35) ≡ false) × (is_letter b ≡ false)
digit_begins b h = (grind (arith, nat_tests), grind (arith, nat_tests), grind (arith, nat_tests))

-- ---- runs of bytes

run_len : (p : ℕ → Bool) (w rest : List ℕ) → list_all p w ≡ true → begins_no p rest ≡ true → prefix_len p (w ++ rest) ≡ length w
run_len p [] [] a h = refl
run_len p [] (b ∷ rest) a h = grind arith
run_len p (b ∷ w) rest a h = let e = and_parts (p b) (list_all p w) a in rw (e.0, run_len p w rest e.1 h) (omega arith)

run_taken : (p : ℕ → Bool) (w rest : List ℕ) → list_all p w ≡ true → begins_no p rest ≡ true → take (prefix_len p (w ++ rest)) (w ++ rest) ≡ w
run_taken p w rest a h = rw (run_len p w rest a h) (take-append_seam w rest)

digits_stop : (bytes : List ℕ) → begins_no is_word_byte bytes ≡ true → begins_no is_digit bytes ≡ true
digits_stop [] h = refl
digits_stop (b ∷ bytes) h = grind (arith, nat_tests)

abbrev pub column_after : ℕ → List ℕ → ℕ
column_after c [] = c
column_after c (b ∷ bs) = column_after (c + 1) bs

abbrev pub no_newline : ℕ → Bool
no_newline b = not (b == 10)

same_line : (w : List ℕ) (line c : ℕ) → list_all no_newline w ≡ true
    → place_after_bytes (record { line = line; column = c }) w ≡ record { line = line; column = column_after c w }
same_line [] line c h = refl
same_line (b ∷ w) line c h =
    let e = and_parts (no_newline b) (list_all no_newline w) h in
    rw (not-true (b == 10) e.0) (same_line w line (c + 1) e.1)

word_line : (b : ℕ) → is_word_byte b ≡ true → no_newline b ≡ true
word_line b h = grind (arith, nat_tests)

words_line : (w : List ℕ) → list_all is_word_byte w ≡ true → list_all no_newline w ≡ true
words_line [] h = refl
words_line (b ∷ w) h = let e = and_parts (is_word_byte b) (list_all is_word_byte w) h in rw (word_line b e.0) (words_line w e.1)

-- a token that takes the bytes w is read, and the reading goes on after it
pub one_token : {line free remains : ℕ} {r : Result Source TextFault} (b : ℕ) (w rest : List ℕ) (t : TokenKind) (s n : ParseState)
    → lexeme_of ((b ∷ w) ++ rest) ≡ lexemes.Token t (length (b ∷ w)) → list_all no_newline (b ∷ w) ≡ true
    → is_bad t ≡ false → Room t free remains → step s line t ≡ Some n → Reads line remains rest n r → Reads line free ((b ∷ w) ++ rest) s r
one_token {line} {free} {remains} {r} b w rest t s n e a bad room f d = record {
  so = λ column m g.
      let p : TextPlace = record { line = line; column = column } in
      let len : length (b ∷ w) ≤ length ((b ∷ w) ++ rest) = omega (arith, length-append (b ∷ w) rest) in
      let there : place_after_bytes p (take (length (b ∷ w)) ((b ∷ w) ++ rest)) ≡ record { line = line; column = column_after column (b ∷ w) } =
      ap (λ bs. place_after_bytes p bs) (take-append_seam (b ∷ w) rest) ∙ same_line (b ∷ w) line column a in
      let scanned = token_scans ((b ∷ w) ++ rest) t (length (b ∷ w)) p m e (omega arith) len in
      ap (λ (ts : List Token). reading ts s) scanned
      ∙ took t (is_past_limit t m) p _ s n r (room.fits m g) f
      (rw bad (ap₂ (λ (bs : List ℕ) (q : TextPlace). reading (scan bs 0 q (operators_up_to_token t m)) n) (drop-append_seam (b ∷ w) rest) there)
      ∙ d.so (column_after column (b ∷ w)) (operators_up_to_token t m) (room.leaves m g));
}

third : (a b c : Bool) (u v w x : Lexeme) → a ≡ false → b ≡ false → c ≡ true → cond a u (cond b v (cond c w x)) ≡ w
third a b c u v w x e f g = rw (e, f, g) refl

fourth : (a b c d : Bool) (u v w x y : Lexeme) → a ≡ false → b ≡ false → c ≡ false → d ≡ true → cond a u (cond b v (cond c w (cond d x y))) ≡ x
fourth a b c d u v w x y e f g h = rw (e, f, g, h) refl

-- ---- names

none_of : (b others : Bool) (t : TokenKind) (o : Option TokenKind) → (others ≡ false → o ≡ None) → (b || others) ≡ false → cond b (Some t) o ≡ None
none_of true others t o f h = absurd cc
none_of false others t o f h = f h

no_keyword : (w : List ℕ) → is_reserved w ≡ false → keyword_of w ≡ None
no_keyword w =
    none_of _ _ Fsmd _
    (none_of _ _ (Declare Input) _
    (none_of _ _ (Declare Output) _
    (none_of _ _ (Declare Local) _ (none_of _ _ Array _ (none_of _ _ Reset _ (none_of _ _ State _ (none_of _ _ When _ (none_of _ _ Goto _
    (none_of _ _ Start _ (none_of _ _ Done _ (none_of _ _ Emit _ (none_of _ _ Port None (λ h. refl)))))))))))))

word_is_name : (w : List ℕ) → is_name w ≡ true → word_token w ≡ Name w
word_is_name w h =
    let e = and_parts (is_word w && nat_le (length w) 32) (not (is_reserved w)) h in
    ap (name_or_bad w) (no_keyword w (not-true (is_reserved w) e.1)) ∙ rw h refl

word_lexeme :
    (b : ℕ) (bs : List ℕ) → is_letter b ≡ true
    → lexeme_of (b ∷ bs) ≡ lexemes.Token (word_token (take (prefix_len is_word_byte (b ∷ bs)) (b ∷ bs))) (prefix_len is_word_byte (b ∷ bs))
word_lexeme b bs h = let e = letter_begins b h in third (is_space b) (b == 35) (is_letter b) _ _ _ _ e.0 e.1 h

-- a name is read as one token
pub name_reads : {line free : ℕ} {r : Result Source TextFault} (x rest : List ℕ) (s n : ParseState) → is_name x ≡ true → begins_no is_word_byte rest ≡ true
    → step s line (Name x) ≡ Some n → Reads line free rest n r → Reads line free (x ++ rest) s r
name_reads [] rest s n h b f d = absurd cc
name_reads (b ∷ w) rest s n h stops f d =
    let word = and_parts (is_letter b) (list_all is_word_byte w)
    (and_parts (is_word (b ∷ w)) (nat_le (length (b ∷ w)) 32) (and_parts (is_word (b ∷ w) && nat_le (length (b ∷ w)) 32) (not (is_reserved (b ∷ w))) h).0).0 in
    let all : list_all is_word_byte (b ∷ w) ≡ true = rw word.0 word.1 in
    let e =
    word_lexeme b (w ++ rest) word.0 ∙ ap₂ (λ (v : List ℕ) (k : ℕ). lexemes.Token (word_token v) k) (run_taken is_word_byte (b ∷ w) rest all stops)
    (run_len is_word_byte (b ∷ w) rest all stops)
    ∙ ap (λ (t : TokenKind). lexemes.Token t (length (b ∷ w))) (word_is_name (b ∷ w) h)
    in
    one_token b w rest (Name (b ∷ w)) s n e (words_line (b ∷ w) all) refl (plain_room (Name (b ∷ w)) _ refl refl) f d

-- ---- numbers

-- what the digits of a number are
record Spells (n : ℕ) (ds : List ℕ) : Type 0 where
  digits : list_all is_digit ds ≡ true
  value : value_of_digits ds ≡ n
  some : 0 < length ds

one_digit : (n : ℕ) → n < 10 → Spells n ((48 + n) ∷ [])
one_digit n h = record { digits = grind (arith, nat_tests); value = omega arith; some = omega arith }

last_digit : (n : ℕ) → list_all is_digit ((48 + n % 10) ∷ []) ≡ true
last_digit n = grind (arith, nat_tests)

more_digits : (n : ℕ) (ds : List ℕ) → 10 ≤ n → Spells (n / 10) ds → Spells n (ds ++ ((48 + n % 10) ∷ []))
more_digits n ds h e = record {
  digits = list_all-append is_digit ds ((48 + n % 10) ∷ []) ∙ rw e.digits (last_digit n);
  value = fold-append with_digit 0 ds ((48 + n % 10) ∷ []) ∙ rw e.value (omega arith);
  some = omega (arith, length-append ds ((48 + n % 10) ∷ []));
}

spelled : (n : ℕ) → n < 2 ^ 127 → Spells n (decimal n)
spelled n h = decimal_by_steps_wide Spells one_digit more_digits n (lt_trans h (lit< tt))

small_number : (k : ℕ) → k < 2 ^ 127 → cond (nat_lt k (2 ^ 127)) (Number (pos k)) (Bad flaws.Number) ≡ Number (pos k)
small_number k h = rw (lt-ltb k (2 ^ 127) h) refl

unfolding_number : (ds : List ℕ) (n : ℕ) → value_of_digits ds ≡ n → n < 2 ^ 127 → number_token ds ≡ Number (pos n)
unfolding number_token
unfolding_number ds n e h = ap (λ (k : ℕ). cond (nat_lt k (2 ^ 127)) (Number (pos k)) (Bad flaws.Number)) e ∙ small_number n h

number_lexeme : (b : ℕ) (bs : List ℕ) → is_digit b ≡ true
    → lexeme_of (b ∷ bs) ≡ lexemes.Token (number_token (take (prefix_len is_digit (b ∷ bs)) (b ∷ bs))) (prefix_len is_digit (b ∷ bs))
number_lexeme b bs h = let e = digit_begins b h in fourth (is_space b) (b == 35) (is_letter b) (is_digit b) _ _ _ _ _ e.0 e.1 e.2 h

digits_read : {line free : ℕ} {r : Result Source TextFault} (k : ℕ) (ds rest : List ℕ) (s n : ParseState) → k < 2 ^ 127 → Spells k ds
    → begins_no is_word_byte rest ≡ true → step s line (Number (pos k)) ≡ Some n → Reads line free rest n r → Reads line free (ds ++ rest) s r
digits_read k [] rest s n h e stops f d = absurd (omega (arith, e.some))
digits_read k (b ∷ w) rest s n h e stops f d =
    let first = and_parts (is_digit b) (list_all is_digit w) e.digits in
    let ends = digits_stop rest stops in
    let is =
    number_lexeme b (w ++ rest) first.0 ∙ ap₂ (λ (v : List ℕ) (k : ℕ). lexemes.Token (number_token v) k) (run_taken is_digit (b ∷ w) rest e.digits ends)
    (run_len is_digit (b ∷ w) rest e.digits ends)
    ∙ ap (λ (t : TokenKind). lexemes.Token t (length (b ∷ w))) (unfolding_number (b ∷ w) k e.value h)
    in
    one_token b w rest (Number (pos k)) s n is (words_line (b ∷ w) (digits_are_word_bytes (b ∷ w) e.digits)) refl (plain_room (Number (pos k)) _ refl refl) f d

-- the number in the head of a text
pub one_lexeme : (rest : List ℕ) → lexeme_of (49 ∷ 59 ∷ rest) ≡ lexemes.Token (Number (pos 1)) 1
one_lexeme rest = number_lexeme 49 (59 ∷ rest) refl ∙ ap (λ (t : TokenKind). lexemes.Token t 1) (unfolding_number (49 ∷ []) 1 refl (lit< tt))

pub two_lexeme : (rest : List ℕ) → lexeme_of (50 ∷ 59 ∷ rest) ≡ lexemes.Token (Number (pos 2)) 1
two_lexeme rest = number_lexeme 50 (59 ∷ rest) refl ∙ ap (λ (t : TokenKind). lexemes.Token t 1) (unfolding_number (50 ∷ []) 2 refl (lit< tt))

-- a number is read as one token
pub number_reads : {line free : ℕ} {r : Result Source TextFault} (k : ℕ) (rest : List ℕ) (s n : ParseState) → k < 2 ^ 127 → begins_no is_word_byte rest ≡ true
    → step s line (Number (pos k)) ≡ Some n → Reads line free rest n r → Reads line free (decimal k ++ rest) s r
number_reads k rest s n h stops f d = digits_read k (decimal k) rest s n h (spelled k h) stops f d

-- ---- first bytes

-- the bytes begin, and not with =
abbrev pub opens : List ℕ → Bool
opens [] = false
opens (b ∷ bs) = not (b == 61)

pub opens_append : (w rest : List ℕ) → opens w ≡ true → opens (w ++ rest) ≡ true
opens_append [] rest h = absurd cc
opens_append (b ∷ w) rest h = h

letter_opens : (b : ℕ) → is_letter b ≡ true → not (b == 61) ≡ true
letter_opens b h = grind (arith, nat_tests)

digit_opens : (b : ℕ) → is_digit b ≡ true → not (b == 61) ≡ true
digit_opens b h = grind (arith, nat_tests)

pub name_opens : (x : List ℕ) → is_name x ≡ true → opens x ≡ true
name_opens [] h = absurd cc
name_opens (b ∷ w) h =
    letter_opens b
    (and_parts (is_letter b) (list_all is_word_byte w)
    (and_parts (is_word (b ∷ w)) (nat_le (length (b ∷ w)) 32) (and_parts (is_word (b ∷ w) && nat_le (length (b ∷ w)) 32) (not (is_reserved (b ∷ w))) h).0).0).0

digits_open : (k : ℕ) (ds : List ℕ) → Spells k ds → opens ds ≡ true
digits_open k [] e = absurd (omega (arith, e.some))
digits_open k (b ∷ w) e = digit_opens b (and_parts (is_digit b) (list_all is_digit w) e.digits).0

pub number_opens : (k : ℕ) → k < 2 ^ 127 → opens (decimal k) ≡ true
number_opens k h = digits_open k (decimal k) (spelled k h)
