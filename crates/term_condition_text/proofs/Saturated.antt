-- A number that stops at the greatest u128.
use Rattle.std.proofs.Common.{◌≡◌, ℕ, suc, ◌+◌, ◌-◌, ◌^◌, ◌<◌, ◌≤◌, min, List, [], ◌∷◌, length, get_or, drop, arith, drop-cons}
use Rattle.std.specs.List.{fold}
use Rattle.std.proofs.Math.ListN.{drop_of_length-le}
use Rattle.fs_model.specs.Digits.{with_digit}

-- what stops now stops in the end
stops : (n m : ℕ) (bs : List ℕ) → min n (2 ^ 128 - 1) ≡ min m (2 ^ 128 - 1)
    → min (fold with_digit n bs) (2 ^ 128 - 1) ≡ min (fold with_digit m bs) (2 ^ 128 - 1)
stops n m [] e = e
stops n m (b ∷ bs) e = stops (with_digit n b) (with_digit m b) bs (omega (arith, e))

-- one digit more
pub digit_more : (n i d : ℕ) (bs : List ℕ) → i < length bs
    → min (fold with_digit (min (with_digit n (get_or bs i d)) (2 ^ 128 - 1)) (drop (i + 1) bs)) (2 ^ 128 - 1)
    ≡ min (fold with_digit n (drop i bs)) (2 ^ 128 - 1)
digit_more n i d bs h =
    let s : suc i ≡ i + 1 = omega arith in
    let b = get_or bs i d in
    let more = stops (min (with_digit n b) (2 ^ 128 - 1)) (with_digit n b) (drop (i + 1) bs) (omega arith) in
    rw (drop-cons bs i d h, s) more

-- no digit more
pub whole : (n i : ℕ) (bs : List ℕ) → length bs ≤ i → n < 2 ^ 128 → min (fold with_digit n (drop i bs)) (2 ^ 128 - 1) ≡ n
whole n i bs h l = rw (drop_of_length-le bs h) (omega (arith, l))
