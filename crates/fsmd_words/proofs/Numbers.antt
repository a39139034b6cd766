-- What `get_one` reads of a number.
use Rattle.std.proofs.Common.{◌≡◌, ◌∙◌, ◌^◌, ◌≤◌, ◌<◌, ap, ℕ, Bool, true, false, List, [], ◌∷◌, Option, Some, None, refl, sym, arith}
use Rattle.std.specs.Prelude.{Result, Ok, Err, cond, length, nat_lt}
use Rattle.std.specs.List.{list_all}
use Rattle.std.specs.Char.{digit_value}
use Rattle.std.specs.Str.Parse.{AllDigits, ParsesUnsigned, digits_value, without_leading_plus}
use Rattle.std.proofs.lemmas.Bool.{leb-true, lt-ltb, ltb-true}
use Rattle.clap.specs.Words.{Text, ReadsOne, one_text, rows_of}
use Rattle.clap.specs.Walk.{one_of}
use Rattle.clap.specs.ValueTests.{is_unsigned_in}
use Rattle.clap.specs.declared.parser.matches.Found.{Found}
use Rattle.clap.proofs.WalkLemmas.{both, one_text-rows}
use Rattle.fsmd_words.specs.AskedWords.{number_in_range, number_option}

digits_pass : (ds : List ℕ) → AllDigits 10 ds → list_all (λ d. nat_lt (digit_value d) 10) ds ≡ true
digits_pass [] h = refl
digits_pass (d ∷ ds) h = rw (lt-ltb (digit_value d) 10 h.0) (digits_pass ds h.1)

digits_from : (ds : List ℕ) → list_all (λ d. nat_lt (digit_value d) 10) ds ≡ true → AllDigits 10 ds
digits_from [] e = tt
digits_from (d ∷ ds) e =
    let parts = both _ _ e in
    (ltb-true _ _ parts.0, digits_from ds parts.1)

under : (n most bound : ℕ) → n ≤ most → most < bound → n < bound
under n most bound a b = omega arith

text_read : {E : Type 0} (bits low high other : ℕ) → 2 ^ bits ≤ 2 ^ 64 → high < 2 ^ bits
    → (t : Text) (G : Text → Result ℕ E → Type 0) (r : Option ℕ) → ReadsOne G t r
    → ((u : Text) (x : Result ℕ E) → G u x → ParsesUnsigned bits 10 u x) → number_in_range low high other r ≡ number_option low high other (Some t)
text_read bits low high other few fits t G (Some n) read only =
    let ds = without_leading_plus t in
    let h = only t (Ok n) read in
    let small : digits_value 10 ds < 2 ^ bits = h.0.1 in
    let within : digits_value 10 ds < 2 ^ 64 = omega (arith, small, few) in
    rw (lt-ltb 0 (length ds) h.0.0.0, digits_pass ds h.0.0.1, lt-ltb (digits_value 10 ds) (2 ^ 64) within, h.1) refl
text_read bits low high other few fits t G None read only =
    let ds = without_leading_plus t in
    let h = only t (Err read.0) read.1 in
    go (is_unsigned_in low high t) refl h
  where
    go : (b : Bool) → is_unsigned_in low high t ≡ b → (ParsesUnsigned bits 10 t (Err read.0))
        → other ≡ cond (is_unsigned_in low high t) (digits_value 10 (without_leading_plus t)) other
    go false e h = rw e refl
    go true e h =
        let outer = both _ _ e in
        let numeral = both _ _ outer.0 in
        let inner = both _ _ outer.1 in
        let most = both _ _ inner.1 in
        let at_most : digits_value 10 (without_leading_plus t) ≤ high = leb-true _ _ most.1 in
        let small : digits_value 10 (without_leading_plus t) < 2 ^ bits = under _ high _ at_most fits in
        absurd (h ((ltb-true _ _ numeral.0, digits_from (without_leading_plus t) numeral.1), small))

-- a number of so many bits that was read of the matches, kept in a range, is that of the rows
pub number_read : {E : Type 0} (bits low high other : ℕ) → 2 ^ bits ≤ 2 ^ 64 → high < 2 ^ bits
    → (f : Found) (id : Text) (G : Text → Result ℕ E → Type 0) (r : Option ℕ)
    → (one_text f id ≡ None → r ≡ None) → ((t : Text) → one_text f id ≡ Some t → ReadsOne G t r)
    → ((u : Text) (x : Result ℕ E) → G u x → ParsesUnsigned bits 10 u x)
    → number_in_range low high other r ≡ number_option low high other (one_of id (rows_of f))
number_read bits low high other few fits f id G r none value only = go (one_text f id) refl ∙ ap (number_option low high other) (one_text-rows f id)
  where
    go : (o : Option Text) → one_text f id ≡ o → number_in_range low high other r ≡ number_option low high other (one_text f id)
    go None e = rw (e, none e) refl
    go (Some t) e = text_read bits low high other few fits t G r (value t e) only ∙ ap (number_option low high other) (sym e)
