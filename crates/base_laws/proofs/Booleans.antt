-- Tests: what a connective says of its parts, where it falls away, and a choice by a test.
use Rattle.std.proofs.Common.{◌≡◌, ℕ, ◌+◌, Bool, true, false, not, ◌&&◌, ◌||◌, cond, refl, arith}

pub and_first : (a b : Bool) → (a && b) ≡ true → a ≡ true
and_first true b e = refl
and_first false b e = absurd (cc e)

pub and_second : (a b : Bool) → (a && b) ≡ true → b ≡ true
and_second true b e = e
and_second false b e = absurd (cc e)

pub neither_first : (a b : Bool) → (a || b) ≡ false → a ≡ false
neither_first true b e = absurd (cc e)
neither_first false b e = refl

pub neither_second : (a b : Bool) → (a || b) ≡ false → b ≡ false
neither_second true b e = absurd (cc e)
neither_second false b e = e

pub or_other : (a b : Bool) → a ≡ false → (a || b) ≡ true → b ≡ true
or_other true b h e = absurd (cc h)
or_other false b h e = e

pub not_or_second : (a b : Bool) → not (a || b) ≡ true → not b ≡ true
not_or_second true b e = absurd (cc e)
not_or_second false b e = e

pub true_and_false : (b : Bool) → b ≡ true → b ≡ false → ⊥
true_and_false true e h = cc h
true_and_false false e h = cc e

pub and_true : (b : Bool) → (b && true) ≡ b
and_true true = refl
and_true false = refl

pub and_false : (b : Bool) → (b && false) ≡ false
and_false true = refl
and_false false = refl

pub or_true : (b : Bool) → (b || true) ≡ true
or_true true = refl
or_true false = refl

pub or_false : (b : Bool) → (b || false) ≡ b
or_false true = refl
or_false false = refl

pub not_or : (a b : Bool) → not (a || b) ≡ (not a && not b)
not_or true b = refl
not_or false b = refl

pub and_swap : (a b c d : Bool) → ((a && b) && (c && d)) ≡ ((a && c) && (b && d))
and_swap true true c d = refl
and_swap true false true d = refl
and_swap true false false d = refl
and_swap false b c d = refl

pub and_three : (a b c : Bool) → (a && b && c) ≡ true → (a ≡ true) × (b ≡ true) × (c ≡ true)
and_three true true c e = (refl, refl, e)
and_three true false c e = absurd (cc e)
and_three false b c e = absurd (cc e)

-- one of two by a test, and a fact of each
pub by_test : {T : Type 0} (P : T → Type 0) (x y : T) (b : Bool) → (b ≡ true → P x) → (b ≡ false → P y) → P (cond b x y)
by_test P x y true f g = f refl
by_test P x y false f g = g refl

pub one_or_none_more : (b : Bool) (n : ℕ) → cond b 1 0 + n ≡ cond b (1 + n) n
one_or_none_more true n = refl
one_or_none_more false n = omega arith
