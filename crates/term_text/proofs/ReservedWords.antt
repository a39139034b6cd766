-- How long reserved words are.
use Rattle.std.proofs.Common.{◌≡◌, ℕ, Bool, true, false, ◌||◌, ◌&&◌, List, [], ◌∷◌, ◌<◌, ◌≤◌, length, refl, sym, subst, arith}
use Rattle.std.specs.Prelude.{nat_le}
use Rattle.std.specs.List.{list_all, list_any}
use Rattle.std.specs.Str.{bytes_eq}
use Rattle.std.specs.Cmp.Lexicographic.{same_text}
use Rattle.std.proofs.lemmas.Bool.{leb-true, and_parts, false_from_ne_true}
use Rattle.fs_model.specs.Words.{is_reserved, reserved_words}

abbrev has_reserved_length : List ℕ → Bool
has_reserved_length x = nat_le 4 (length x) && nat_le (length x) 6

among_words : (x : List ℕ) (ws : List (List ℕ)) → list_all has_reserved_length ws ≡ true → list_any (bytes_eq x) ws ≡ true → has_reserved_length x ≡ true
among_words x [] h e = absurd (cc e)
among_words x (w ∷ ws) h e =
    let p = and_parts (has_reserved_length w) (list_all has_reserved_length ws) h in
    by_test (bytes_eq x w) refl (among_words x ws p.1) e
  where
    by_test : (t : Bool) → bytes_eq x w ≡ t → (list_any (bytes_eq x) ws ≡ true → has_reserved_length x ≡ true) → (t || list_any (bytes_eq x) ws) ≡ true
        → has_reserved_length x ≡ true
    by_test true f others g = subst (λ y. has_reserved_length y ≡ true) (sym (same_text x w (sym f)))
        (and_parts (has_reserved_length w) (list_all has_reserved_length ws) h).0
    by_test false f others g = others g

reserved_fit : (x : List ℕ) → is_reserved x ≡ true → (4 ≤ length x) × (length x ≤ 6)
reserved_fit x e =
    let p = and_parts (nat_le 4 (length x)) (nat_le (length x) 6) (among_words x reserved_words refl e) in
    (leb-true 4 (length x) p.0, leb-true (length x) 6 p.1)

pub short_word : (x : List ℕ) → length x < 4 → is_reserved x ≡ false
short_word x h = false_from_ne_true (is_reserved x) (λ e. let low = (reserved_fit x e).0 in omega (arith, low, h))

pub long_word : (x : List ℕ) → 6 < length x → is_reserved x ≡ false
long_word x h = false_from_ne_true (is_reserved x) (λ e. let high = (reserved_fit x e).1 in omega (arith, high, h))
