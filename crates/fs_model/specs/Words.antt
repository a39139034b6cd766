-- What a name is.
use Rattle.std.specs.Prelude.{ℕ, Bool, false, not, ◌&&◌, ◌||◌, nat_le, ◌==◌, List, [], ◌∷◌, length, codes}
use Rattle.std.specs.List.{list_all, list_any}
use Rattle.std.specs.Str.{bytes_eq}
use Rattle.fs_model.specs.Limits.{most_name_bytes}

-- a letter or the low line, with which a word begins
abbrev pub is_letter : ℕ → Bool
is_letter b = (nat_le 97 b && nat_le b 122) || (nat_le 65 b && nat_le b 90) || b == 95

abbrev pub is_digit : ℕ → Bool
is_digit b = nat_le 48 b && nat_le b 57

-- a letter, a digit or the low line, with which a word goes on
abbrev pub is_word_byte : ℕ → Bool
is_word_byte b = is_letter b || is_digit b

abbrev pub is_word : List ℕ → Bool
is_word [] = false
is_word (b ∷ bytes) = is_letter b && list_all is_word_byte bytes

-- the words that are not names
abbrev pub reserved_words : List (List ℕ)
reserved_words =
    codes "fsmd" ∷ codes "input" ∷ codes "output" ∷ codes "local" ∷ codes "array" ∷ codes "reset" ∷ codes "state"
    ∷ codes "when" ∷ codes "goto"
    ∷ codes "start" ∷ codes "done" ∷ codes "emit" ∷ codes "port" ∷ []

abbrev pub is_reserved : List ℕ → Bool
is_reserved bytes = list_any (bytes_eq bytes) reserved_words

-- a word of at most 32 bytes that is not reserved
abbrev pub is_name : List ℕ → Bool
is_name bytes = is_word bytes && nat_le (length bytes) most_name_bytes && not (is_reserved bytes)
