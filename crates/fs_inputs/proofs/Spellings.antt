-- Two texts that spell one number are the same text.
use Rattle.std.proofs.Common.{◌≡◌, ◌⊎◌, inl, inr, ℕ, zero, suc, ◌+◌, ◌*◌, ◌-◌, ◌≤◌, ◌<◌, ◌==◌, ℤ, pos, neg_ℤ, Bool, true, false, cond, not, List, [], ◌∷◌}
use Rattle.std.proofs.Common.{length, Some, None, refl, sym, ap, ap₂, ◌∙◌, arith, codes}
use Rattle.std.specs.List.{fold, list_all}
use Rattle.std.specs.Str.{bytes_eq}
use Rattle.std.specs.Prelude.{nat_le}
use Rattle.std.proofs.lemmas.Bool.Decides.{nat_tests, Decides-eqb}
use Rattle.std.proofs.lemmas.Slice.Eq.{bytes_eq-Decides}
use Rattle.std.proofs.lemmas.Bool.{and_parts, or_cases}
use Rattle.fs_model.proofs.Booleans.{and_three}
use Rattle.fs_model.specs.Digits.{with_digit, value_of_digits}
use Rattle.fs_model.specs.Words.{is_digit}
use Rattle.fs_inputs.specs.Numbers.{is_positive, is_natural, number_in}
use Rattle.fs_model.proofs.Digits.{grows}

in_range : (b : ℕ) → is_digit b ≡ true → (48 ≤ b) × (b ≤ 57)
in_range b e = let p = and_parts (nat_le 48 b) (nat_le b 57) e in (grind (arith, nat_tests, p.0), grind (arith, nat_tests, p.1))

zero_not : (t : Bool) → not t ≡ true → t ≡ true → ⊥
zero_not true e h = cc
zero_not false e h = cc

not_zero : (b : ℕ) → not (b == 48) ≡ true → b ≡ 48 → ⊥
not_zero b e h = zero_not (b == 48) e ((Decides-eqb b 48).1 h)

same_length : (bs cs : List ℕ) (n m : ℕ) → list_all is_digit bs ≡ true → list_all is_digit cs ≡ true → length bs ≡ length cs
    → fold with_digit n bs ≡ fold with_digit m cs → (n ≡ m) × (bs ≡ cs)
same_length [] [] n m p q l e = (e, refl)
same_length [] (c ∷ cs) n m p q l e = absurd (omega arith)
same_length (b ∷ bs) [] n m p q l e = absurd (omega arith)
same_length (b ∷ bs) (c ∷ cs) n m p q l e =
    let p' = and_parts (is_digit b) (list_all is_digit bs) p in
    let q' = and_parts (is_digit c) (list_all is_digit cs) q in
    let r = same_length bs cs (with_digit n b) (with_digit m c) p'.1 q'.1 (omega arith) e in
    let low = in_range b p'.0 in
    let high = in_range c q'.0 in
    let same : b ≡ c = omega (arith, r.0, low.0, low.1, high.0, high.1) in
    (omega (arith, r.0, low.0, low.1, high.0, high.1), ap₂ (λ x xs. x ∷ xs) same r.1)

fewer_or_same : (a b : ℕ) → a ≤ suc b → (a ≤ b) ⊎ (a ≡ suc b)
fewer_or_same a b h = grind arith

-- where digits after n spell what at least as many after m and c do, n is at least the number of m and c
longer : (cs bs : List ℕ) (n m c : ℕ) → list_all is_digit bs ≡ true → list_all is_digit cs ≡ true → length bs ≤ length cs
    → fold with_digit n bs ≡ fold with_digit (with_digit m c) cs → 10 * m + (c - 48) ≤ n
longer [] bs n m c p q l e = let r = same_length bs [] n (with_digit m c) p q (omega arith) e in omega (arith, r.0)
longer (x ∷ cs) bs n m c p q l e =
    let q' = and_parts (is_digit x) (list_all is_digit cs) q in
    elim (fewer_or_same (length bs) (length cs) l) [
      | inl h ↦ omega (arith, longer cs bs n (with_digit m c) x p q'.1 h e)
      | inr h ↦ omega (arith, (same_length bs (x ∷ cs) n (with_digit m c) p q h e).0)
    ]

shorter : (b c : ℕ) (bs cs : List ℕ) → is_digit b ≡ true → is_digit c ≡ true → (c ≡ 48 → ⊥) → list_all is_digit bs ≡ true → list_all is_digit cs ≡ true
    → length bs < length cs → value_of_digits (b ∷ bs) ≡ value_of_digits (c ∷ cs) → ⊥
shorter b c bs [] db dc nc p q l e = omega arith
shorter b c bs (x ∷ cs) db dc nc p q l e =
    let low = in_range b db in
    let high = in_range c dc in
    let q' = and_parts (is_digit x) (list_all is_digit cs) q in
    omega (arith, longer cs bs (with_digit 0 b) (with_digit 0 c) x p q'.1 (omega arith) e, low.0, low.1, high.0, high.1)

order : (a b : ℕ) → (a < b) ⊎ (a ≡ b) ⊎ (b < a)
order a b = grind arith

-- digits of which the first is not 0 are determined by their number
positive_same : (s t : List ℕ) → is_positive s ≡ true → is_positive t ≡ true → value_of_digits s ≡ value_of_digits t → s ≡ t
positive_same [] t p q e = cc
positive_same (b ∷ bs) [] p q e = cc
positive_same (b ∷ bs) (c ∷ cs) p q e =
    let p' = and_three (is_digit b) (not (b == 48)) (list_all is_digit bs) p in
    let q' = and_three (is_digit c) (not (c == 48)) (list_all is_digit cs) q in
    let low = in_range b p'.0 in
    let high = in_range c q'.0 in
    elim (order (length bs) (length cs)) [
      | inl h ↦ absurd (shorter b c bs cs p'.0 q'.0 (not_zero c q'.1) p'.2 q'.2 h e)
      | inr (inl h) ↦
          let r = same_length bs cs (with_digit 0 b) (with_digit 0 c) p'.2 q'.2 h e in
          let same : b ≡ c = omega (arith, r.0, low.0, low.1, high.0, high.1) in
          ap₂ (λ x xs. x ∷ xs) same r.1
      | inr (inr h) ↦ absurd (shorter c b cs bs q'.0 p'.0 (not_zero b p'.1) q'.2 p'.2 h (sym e))
    ]

above_zero : (s : List ℕ) → is_positive s ≡ true → 1 ≤ value_of_digits s
above_zero [] p = cc
above_zero (b ∷ bs) p =
    let p' = and_three (is_digit b) (not (b == 48)) (list_all is_digit bs) p in
    let low = in_range b p'.0 in
    let other = not_zero b p'.1 in
    omega (arith, grows (with_digit 0 b) bs, low.0, other)

natural_by : (s t : List ℕ) → (is_positive s ≡ true) ⊎ (bytes_eq s (codes "0") ≡ true) → (is_positive t ≡ true) ⊎ (bytes_eq t (codes "0") ≡ true)
    → value_of_digits s ≡ value_of_digits t → s ≡ t
natural_by s t (inl h) (inl k) e = positive_same s t h k e
natural_by s t (inl h) (inr k) e = absurd (omega (arith, above_zero s h, ap value_of_digits ((bytes_eq-Decides t (codes "0")).0 k), e))
natural_by s t (inr h) (inl k) e = absurd (omega (arith, above_zero t k, ap value_of_digits ((bytes_eq-Decides s (codes "0")).0 h), e))
natural_by s t (inr h) (inr k) e = (bytes_eq-Decides s (codes "0")).0 h ∙ sym ((bytes_eq-Decides t (codes "0")).0 k)

natural_same : (s t : List ℕ) → is_natural s ≡ true → is_natural t ≡ true → value_of_digits s ≡ value_of_digits t → s ≡ t
natural_same s t p q e = natural_by s t (or_cases (is_positive s) (bytes_eq s (codes "0")) p) (or_cases (is_positive t) (bytes_eq t (codes "0")) q) e

-- how a text spells a number
data Form (s : List ℕ) (z : ℤ) : Type 0 where
  natural : is_natural s ≡ true → z ≡ pos (value_of_digits s) → Form s z
  negative : (rest : List ℕ) → s ≡ 45 ∷ rest → is_positive rest ≡ true → z ≡ neg_ℤ (pos (value_of_digits rest)) → Form s z

form_by : (minus positive naturally : Bool) (b : ℕ) (bytes : List ℕ) (z : ℤ) → b == 45 ≡ minus → is_positive bytes ≡ positive
    → is_natural (b ∷ bytes) ≡ naturally
    → cond minus (cond positive (Some (neg_ℤ (pos (value_of_digits bytes)))) None) (cond naturally (Some (pos (value_of_digits (b ∷ bytes)))) None) ≡ Some z
    → Form (b ∷ bytes) z
form_by true true t b bytes z m p n e = negative bytes (ap (λ x. x ∷ bytes) ((Decides-eqb b 45).0 m)) p (cc)
form_by true false t b bytes z m p n e = absurd (cc)
form_by false positive true b bytes z m p n e = natural n (cc)
form_by false positive false b bytes z m p n e = absurd (cc)

form : (s : List ℕ) (z : ℤ) → number_in s ≡ Some z → Form s z
form [] z e = absurd (cc)
form (b ∷ bytes) z e = form_by (b == 45) (is_positive bytes) (is_natural (b ∷ bytes)) b bytes z refl refl refl e

signs : (n m : ℕ) → 1 ≤ m → pos n ≡ neg_ℤ (pos m) → ⊥
signs n zero h e = omega arith
signs n (suc m) h e = cc

negated : (n m : ℕ) → neg_ℤ (pos n) ≡ neg_ℤ (pos m) → n ≡ m
negated zero zero e = refl
negated zero (suc m) e = absurd (cc)
negated (suc n) zero e = absurd (cc)
negated (suc n) (suc m) e = let same : n ≡ m = cc in ap suc same

same_text : (s t : List ℕ) (z : ℤ) → Form s z → Form t z → s ≡ t
same_text s t z (natural p a) (natural q b) = let same : value_of_digits s ≡ value_of_digits t = cc in natural_same s t p q same
same_text s t z (natural p a) (negative rest u q b) = absurd (signs (value_of_digits s) (value_of_digits rest) (above_zero rest q) (sym a ∙ b))
same_text s t z (negative rest u p a) (natural q b) = absurd (signs (value_of_digits t) (value_of_digits rest) (above_zero rest p) (sym b ∙ a))
same_text s t z (negative rest u p a) (negative more v q b) = u
    ∙ ap (λ xs. 45 ∷ xs) (positive_same rest more p q (negated (value_of_digits rest) (value_of_digits more) (sym a ∙ b))) ∙ sym v

pub one_spelling : (s t : List ℕ) (z : ℤ) → number_in s ≡ Some z → number_in t ≡ Some z → s ≡ t
one_spelling s t z e f = same_text s t z (form s z e) (form t z f)
