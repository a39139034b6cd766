-- A digit may stand in a word.
use Rattle.std.proofs.Common.{◌≡◌, ℕ, true, List, [], ◌∷◌, refl}
use Rattle.std.specs.List.{list_all}
use Rattle.std.proofs.lemmas.Bool.{or_right, and_from, and_parts}
use Rattle.fs_model.specs.Words.{is_letter, is_digit, is_word_byte}

pub digit_is_word_byte : (b : ℕ) → is_digit b ≡ true → is_word_byte b ≡ true
digit_is_word_byte b e = or_right (is_letter b) (is_digit b) e

pub digits_are_word_bytes : (bs : List ℕ) → list_all is_digit bs ≡ true → list_all is_word_byte bs ≡ true
digits_are_word_bytes [] e = refl
digits_are_word_bytes (b ∷ bs) e =
    let p = and_parts (is_digit b) (list_all is_digit bs) e in
    and_from (is_word_byte b) (list_all is_word_byte bs) (digit_is_word_byte b p.0) (digits_are_word_bytes bs p.1)
