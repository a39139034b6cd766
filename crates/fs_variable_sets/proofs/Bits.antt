-- What is in sets, by their bits.
use Rattle.std.proofs.Common.{◌≡◌, ℕ, zero, suc, ◌-◌, ◌*◌, ◌/◌, ◌%◌, ◌^◌, ◌<◌, ◌≤◌, ap, sym, refl, ◌∙◌, subst, arith, Bool, true, false, min, max, bit_and}
use Rattle.std.proofs.Common.{bit_or}
use Rattle.std.specs.Prelude.{◌≢◌, ◌==◌, ◌&&◌, ◌||◌, not, nat_lt}
use Rattle.std.specs.Int.{bit_at, bit_not, w128}
use Rattle.std.proofs.lemmas.Nat.{le_or_l}
use Rattle.std.proofs.lemmas.Nat.Bits.{shr_and_one, bit_at_above, bit_at-zero, bit_at_or, bit_at_and, bit_at-lt, bit_at_set_same, bit_at_set_other, bit_at_not}
use Rattle.std.proofs.lemmas.Nat.Bits.{same_from_bits}
use Rattle.std.proofs.lemmas.Bool.{and_parts}
use Rattle.std.proofs.lemmas.Bool.Decides.{nat_tests}
use Rattle.fs_variable_sets.specs.declared.VariableSet.{VariableSet}
use Rattle.fs_variable_sets.specs.Sets.{has_variable, also, sets_meet}
use Rattle.fs_variable_sets.proofs.Members.{some_met, none_met}

-- ---- tests of bits
one_is : (n : ℕ) → (n == 1) ≡ true → n ≡ 1
one_is n h = grind (arith, nat_tests)

or_test : (m n : ℕ) → m < 2 → n < 2 → (max m n == 1) ≡ ((m == 1) || (n == 1))
or_test zero n h i = ap (λ k. k == 1) (let e : max 0 n ≡ n = omega arith in e)
or_test (suc zero) n h i = ap (λ k. k == 1) (let e : max 1 n ≡ 1 = omega (arith, i) in e)
or_test (suc (suc m)) n h i = absurd (omega (arith, h))

except_test : (m n : ℕ) → m < 2 → n < 2 → (min m (1 - n) == 1) ≡ ((m == 1) && not (n == 1))
except_test zero n h i = ap (λ k. k == 1) (let e : min 0 (1 - n) ≡ 0 = omega arith in e)
except_test (suc zero) zero h i = refl
except_test (suc zero) (suc zero) h i = refl
except_test (suc zero) (suc (suc n)) h i = absurd (omega (arith, i))
except_test (suc (suc m)) n h i = absurd (omega (arith, h))

none_of : (m n : ℕ) → m < 2 → n < 2 → ((m == 1) && (n == 1)) ≡ false → min m n ≡ 0
none_of zero n h i e = omega arith
none_of (suc zero) zero h i e = refl
none_of (suc zero) (suc zero) h i e = absurd (cc e)
none_of (suc zero) (suc (suc n)) h i e = absurd (omega (arith, i))
none_of (suc (suc m)) n h i e = absurd (omega (arith, h))

same_bit : (m n : ℕ) → m < 2 → n < 2 → (m == 1) ≡ (n == 1) → m ≡ n
same_bit zero zero h i e = refl
same_bit zero (suc zero) h i e = absurd (cc e)
same_bit zero (suc (suc n)) h i e = absurd (omega (arith, i))
same_bit (suc zero) zero h i e = absurd (cc e)
same_bit (suc zero) (suc zero) h i e = refl
same_bit (suc zero) (suc (suc n)) h i e = absurd (omega (arith, i))
same_bit (suc (suc m)) n h i e = absurd (omega (arith, h))

-- ---- what each operation holds
pub has_none : has_variable (record { bits = 0 }) ≡ λ x. false
unfolding has_variable
has_none = λ j x. ap (λ k. k == 1) (bit_at-zero x) j

set_step : (n x y : ℕ) (t : Bool) → (x == y) ≡ t → x < 128 → (bit_at (bit_or n (1 * 2 ^ x % 2 ^ 128)) y == 1) ≡ ((t && nat_lt x 128) || (bit_at n y == 1))
set_step n x y true e h =
    let c : x ≡ y = grind (arith, nat_tests) in
    let l : nat_lt x 128 ≡ true = grind (arith, nat_tests) in
    rw l (ap (λ b. b == 1) (subst (λ z. bit_at (bit_or n (1 * 2 ^ x % 2 ^ 128)) z ≡ 1) c (bit_at_set_same w128 n x h)))
set_step n x y false e h = ap (λ b. b == 1) (bit_at_set_other w128 n x h y (let d : y ≢ x = grind (arith, nat_tests) in d))

pub has_one_more : (set : VariableSet) (x : ℕ) → x < 128 → has_variable (record { bits = bit_or set.bits (1 * 2 ^ x % 2 ^ 128) }) ≡ also x (has_variable set)
unfolding has_variable
has_one_more set x h = λ j y. set_step set.bits x y (x == y) refl h j

pub low_bit : (set : VariableSet) (x : ℕ) → (bit_and (set.bits / 2 ^ x) 1 == 1) ≡ has_variable set x
unfolding has_variable
low_bit set x = ap (λ k. k == 1) (shr_and_one set.bits x)

pub past_bits : (set : VariableSet) (x : ℕ) → set.bits < 2 ^ 128 → 128 ≤ x → has_variable set x ≡ false
unfolding has_variable
past_bits set x f h = ap (λ k. k == 1) (bit_at_above set.bits 128 x f h)

either_bit : (m n x : ℕ) → (bit_at (bit_or m n) x == 1) ≡ ((bit_at m x == 1) || (bit_at n x == 1))
either_bit m n x = ap (λ k. k == 1) (bit_at_or m n x) ∙ or_test (bit_at m x) (bit_at n x) (bit_at-lt m x) (bit_at-lt n x)

pub has_either : (a b : VariableSet) → has_variable (record { bits = bit_or a.bits b.bits }) ≡ λ x. has_variable a x || has_variable b x
unfolding has_variable
has_either a b = λ j x. either_bit a.bits b.bits x j

except_low : (m n x : ℕ) → n < 2 ^ 128 → x < 128 → (bit_at (bit_and m (bit_not w128 n)) x == 1) ≡ ((bit_at m x == 1) && not (bit_at n x == 1))
except_low m n x f h =
    ap (λ k. k == 1) (bit_at_and m (bit_not w128 n) x ∙ ap (λ k. min (bit_at m x) k) (bit_at_not w128 n x f h))
    ∙ except_test (bit_at m x) (bit_at n x) (bit_at-lt m x) (bit_at-lt n x)

except_high : (m n x : ℕ) → m < 2 ^ 128 → 128 ≤ x → (bit_at (bit_and m (bit_not w128 n)) x == 1) ≡ ((bit_at m x == 1) && not (bit_at n x == 1))
except_high m n x f h =
    let none : bit_at m x ≡ 0 = bit_at_above m 128 x f h in
    let parts : bit_at (bit_and m (bit_not w128 n)) x ≡ min (bit_at m x) (bit_at (bit_not w128 n) x) = bit_at_and m (bit_not w128 n) x in
    let out : bit_at (bit_and m (bit_not w128 n)) x ≡ 0 = omega (arith, none, parts) in
    ap (λ k. k == 1) out ∙ ap (λ k. (k == 1) && not (bit_at n x == 1)) (sym none)

except_by : (m n x : ℕ) (t : Bool) → nat_lt x 128 ≡ t → m < 2 ^ 128 → n < 2 ^ 128
    → (bit_at (bit_and m (bit_not w128 n)) x == 1) ≡ ((bit_at m x == 1) && not (bit_at n x == 1))
except_by m n x true e f g = let low : x < 128 = grind (arith, nat_tests, e) in except_low m n x g low
except_by m n x false e f g = let high : 128 ≤ x = grind (arith, nat_tests, e) in except_high m n x f high

pub has_except : (a b : VariableSet) → a.bits < 2 ^ 128 → b.bits < 2 ^ 128
    → has_variable (record { bits = bit_and a.bits (bit_not w128 b.bits) }) ≡ λ x. has_variable a x && not (has_variable b x)
unfolding has_variable
has_except a b f g = λ j x. except_by a.bits b.bits x (nat_lt x 128) refl f g j

-- ---- whether sets meet
both_bits : (a b : VariableSet) (x : ℕ) → (has_variable a x && has_variable b x) ≡ true → bit_at (bit_and a.bits b.bits) x ≡ 1
unfolding has_variable
both_bits a b x h =
    let two = and_parts (bit_at a.bits x == 1) (bit_at b.bits x == 1) h in
    let first : bit_at a.bits x ≡ 1 = one_is (bit_at a.bits x) two.0 in
    let second : bit_at b.bits x ≡ 1 = one_is (bit_at b.bits x) two.1 in
    let parts : bit_at (bit_and a.bits b.bits) x ≡ min (bit_at a.bits x) (bit_at b.bits x) = bit_at_and a.bits b.bits x in
    omega (arith, first, second, parts)

no_bit : (a b : VariableSet) (x : ℕ) (t : Bool) → nat_lt x 128 ≡ t → a.bits < 2 ^ 128 → (x < 128 → (has_variable a x && has_variable b x) ≡ false)
    → bit_at (bit_and a.bits b.bits) x ≡ 0
unfolding has_variable
no_bit a b x true e f h =
    let low : x < 128 = grind (arith, nat_tests, e) in
    bit_at_and a.bits b.bits x ∙ none_of (bit_at a.bits x) (bit_at b.bits x) (bit_at-lt a.bits x) (bit_at-lt b.bits x) (h low)
no_bit a b x false e f h =
    let high : 128 ≤ x = grind (arith, nat_tests, e) in
    let none : bit_at a.bits x ≡ 0 = bit_at_above a.bits 128 x f high in
    let parts : bit_at (bit_and a.bits b.bits) x ≡ min (bit_at a.bits x) (bit_at b.bits x) = bit_at_and a.bits b.bits x in
    omega (arith, none, parts)

apart : (a b : VariableSet) → a.bits < 2 ^ 128 → sets_meet (has_variable a) (has_variable b) ≡ false → bit_and a.bits b.bits ≡ 0
apart a b f h = same_from_bits (bit_and a.bits b.bits) 0
    (λ x. no_bit a b x (nat_lt x 128) refl f (λ low. none_met (has_variable a) (has_variable b) h x low) ∙ sym (bit_at-zero x))

not_apart : (a b : VariableSet) → sets_meet (has_variable a) (has_variable b) ≡ true → bit_and a.bits b.bits ≢ 0
not_apart a b h e =
    let c = some_met (has_variable a) (has_variable b) h in
    let one : bit_at (bit_and a.bits b.bits) c.0 ≡ 1 = both_bits a b c.0 c.1 in
    let none : bit_at (bit_and a.bits b.bits) c.0 ≡ 0 = ap (λ n. bit_at n c.0) e ∙ bit_at-zero c.0 in
    omega (arith, one, none)

meets_by : (a b : VariableSet) (t : Bool) → sets_meet (has_variable a) (has_variable b) ≡ t → a.bits < 2 ^ 128 → not (bit_and a.bits b.bits == 0) ≡ t
meets_by a b true h f = let d : bit_and a.bits b.bits ≢ 0 = not_apart a b h in grind (arith, nat_tests)
meets_by a b false h f = let d : bit_and a.bits b.bits ≡ 0 = apart a b f h in grind (arith, nat_tests)

pub meets_is : (a b : VariableSet) → a.bits < 2 ^ 128 → not (bit_and a.bits b.bits == 0) ≡ sets_meet (has_variable a) (has_variable b)
meets_is a b f = meets_by a b (sets_meet (has_variable a) (has_variable b)) refl f

-- ---- sets with the same members
pub same_bits : (a b : VariableSet) → has_variable a ≡ has_variable b → a.bits ≡ b.bits
unfolding has_variable
same_bits a b h = same_from_bits a.bits b.bits
    (λ x. same_bit (bit_at a.bits x) (bit_at b.bits x) (bit_at-lt a.bits x) (bit_at-lt b.bits x) (ap (λ (f : ℕ → Bool). f x) h))

-- a set with more members is a greater number
pub more_bits : (a b c : VariableSet) → has_variable c ≡ (λ x. has_variable a x || has_variable b x) → a.bits ≤ c.bits
more_bits a b c h =
    let more : c.bits ≡ bit_or a.bits b.bits = same_bits c (record { bits = bit_or a.bits b.bits }) (h ∙ sym (has_either a b)) in
    subst (λ n. a.bits ≤ n) (sym more) (le_or_l a.bits b.bits)
