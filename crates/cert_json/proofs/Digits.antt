-- Digits that stand alone are a number of JSON.
use Rattle.std.proofs.Common.{◌≡◌, ℕ, ◌^◌, ◌<◌, ◌≤◌, List, [], ◌∷◌, ◌++◌, length, get_or, true, false, Some, refl, sym, ap, ◌∙◌, subst, arith}
use Rattle.std.proofs.Common.{append-nil, lt-ltb, ne_eqb}
use Rattle.std.proofs.lemmas.Str.{digit_value_digit}
use Rattle.std.proofs.lemmas.Int.Digits.{digits_value-lt}
use Rattle.std.specs.Prelude.{is_some}
use Rattle.std.specs.Char.{digit_value}
use Rattle.std.specs.Str.Parse.{AllDigits, IsNumeral, digits_value, without_leading_plus}
use Rattle.fast_float.specs.Text.{Parts, digits_of, IsWellFormed}
use Rattle.fast_float.proofs.Writing.{scan-text_of}
use Rattle.serde_json.specs.Data.{unsigned}
use Rattle.serde_json.specs.Read.{number_of, number_from, is_integer}

no_minus : (ds rest : List ℕ) → AllDigits 10 ds → 0 < length ds → get_or (ds ++ rest) 0 0 ≡ 45 → ⊥
no_minus [] rest h some e = omega arith
no_minus (d ∷ ds) rest h some e = let digit : digit_value d < 10 = h.0 in let is : d ≡ 45 = e in grind arith

abbrev digits : List ℕ → Parts
digits ds = record { whole = ds; point = false; fraction = []; exponent_negative = false; exponent = []; len = length (ds ++ []) }

formed : (ds : List ℕ) → AllDigits 10 ds → IsWellFormed (digits ds)
formed ds h = record { whole_digits = h; fraction_digits = tt; exponent_digits = tt; no_point = λ _. refl; no_exponent = λ _. refl; len_is = refl }

number_of-digits : (ds : List ℕ) → AllDigits 10 ds → 0 < length ds → number_of (ds ++ []) ≡ number_from false (digits ds)
unfolding number_of
number_of-digits ds h some = rw (ne_eqb (get_or (ds ++ []) 0 0) 45 (no_minus ds [] h some)) (ap (number_from false) (scan-text_of (digits ds) (formed ds h)))

digits_alone : (ds : List ℕ) → AllDigits 10 ds → 0 < length ds → digits_value 10 ds < 2 ^ 64 → number_of ds ≡ Some (unsigned (digits_value 10 ds))
digits_alone ds h some fits =
    let whole : is_integer (digits ds) ≡ true = rw (lt-ltb _ _ some) in
    let worth : digits_of (digits ds) ≡ digits_value 10 ds = ap (digits_value 10) (append-nil ds) in
    ap number_of (sym (append-nil ds)) ∙ number_of-digits ds h some ∙ rw (whole, worth) (rw (lt-ltb _ _ fits))

-- a numeral that begins with no plus
pub parsed_digits : (bs : List ℕ) (n : ℕ) → 48 ≤ get_or bs 0 0
    → (IsNumeral 10 (without_leading_plus bs) × (digits_value 10 (without_leading_plus bs) < 2 ^ 64)) × (n ≡ digits_value 10 (without_leading_plus bs))
    → (n < 2 ^ 64) × (number_of bs ≡ Some (unsigned n))
parsed_digits bs n first h =
    let same : without_leading_plus bs ≡ bs = rw (ne_eqb (get_or bs 0 0) 43 (λ z. omega arith)) in
    let is = subst (λ ds. (IsNumeral 10 ds × (digits_value 10 ds < 2 ^ 64)) × (n ≡ digits_value 10 ds)) same h in
    (subst (λ k. k < 2 ^ 64) (sym is.1) is.0.1, digits_alone bs is.0.0.1 is.0.0.0 is.0.1 ∙ ap (λ k. Some (unsigned k)) (sym is.1))

-- one digit
pub one_digit : (bs : List ℕ) → length bs ≡ 1 → 48 ≤ get_or bs 0 0 → get_or bs 0 0 ≤ 57 → is_some (number_of bs) ≡ true
one_digit [] one low high = absurd (omega (arith, one))
one_digit (d ∷ []) one low high =
    let small : digit_value d < 10 = omega (arith, low, high, digit_value_digit d (low, high)) in
    let all : AllDigits 10 (d ∷ []) = (small, tt) in
    let below : digits_value 10 (d ∷ []) < 10 = digits_value-lt 10 (d ∷ []) all in
    ap is_some (digits_alone (d ∷ []) all (omega arith) (omega (arith, below)))
one_digit (d ∷ e ∷ ds) one low high = absurd (omega (arith, one))
