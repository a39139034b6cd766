-- The names of states are names.
use Rattle.std.proofs.Common.{◌≡◌, ℕ, suc, ◌+◌, ◌/◌, ◌%◌, ◌<◌, ◌≤◌, ◌^◌, List, [], ◌∷◌, ◌++◌, length, refl, ◌∙◌, arith, true, decimal, lit<}
use Rattle.std.specs.Prelude.{◌&&◌, not, nat_le}
use Rattle.std.specs.List.{list_all}
use Rattle.std.proofs.lemmas.Bool.Decides.{nat_tests}
use Rattle.std.proofs.lemmas.List.Folds.{list_all-append}
use Rattle.std.proofs.lemmas.Fmt.{decimal_by_steps, length-decimal-le}
use Rattle.std.proofs.lemmas.Bool.{and_from}
use Rattle.fs_model.specs.Words.{is_word_byte, is_word, is_reserved, is_name}
use Rattle.hls_program_parts.specs.Compiled.{state_name}

digit_byte : (d : ℕ) → d < 10 → is_word_byte (48 + d) ≡ true
digit_byte d h = grind (arith, nat_tests)

abbrev AreDigits : ℕ → List ℕ → Type 0
AreDigits n ds = list_all is_word_byte ds ≡ true

more_digits : (n : ℕ) (ds : List ℕ) → 10 ≤ n → AreDigits (n / 10) ds → AreDigits n (ds ++ ((48 + n % 10) ∷ []))
more_digits n ds h i =
    let low : n % 10 < 10 = omega arith in
    list_all-append is_word_byte ds ((48 + n % 10) ∷ []) ∙ and_from (list_all is_word_byte ds)
    (is_word_byte (48 + n % 10) && true) i (and_from (is_word_byte (48 + n % 10)) true (digit_byte (n % 10) low) refl)

digits : (n : ℕ) → n < 2 ^ 64 → list_all is_word_byte (decimal n) ≡ true
digits n h = decimal_by_steps AreDigits (λ d i. and_from (is_word_byte (48 + d)) true (digit_byte d i) refl) more_digits n h

few : (n : ℕ) → n < 2 ^ 64 → nat_le (suc (length (decimal n))) 32 ≡ true
few n h =
    let m : n < 10 ^ 20 = omega (arith, h) in
    let l : length (decimal n) ≤ 20 = length-decimal-le 20 n (lit< tt) m h in
    grind (arith, nat_tests, l)

pub is_state_name : (n : ℕ) → n < 2 ^ 64 → is_name (state_name n) ≡ true
is_state_name n h =
    and_from (is_word (state_name n) && nat_le (length (state_name n)) 32) (not (is_reserved (state_name n)))
    (and_from (is_word (state_name n)) (nat_le (length (state_name n)) 32) (digits n h) (few n h)) refl
