-- Numbers grow with each digit.
use Rattle.std.proofs.Common.{ℕ, suc, ◌<◌, ◌≤◌, ◌+◌, ◌*◌, ◌-◌, List, [], ◌∷◌, length, get_or, drop, arith, drop-cons}
use Rattle.std.specs.List.{fold}
use Rattle.base_laws.specs.Digits.{with_digit}

pub grows : (n : ℕ) (bs : List ℕ) → n ≤ fold with_digit n bs
grows n [] = omega arith
grows n (b ∷ bs) = omega (arith, grows (with_digit n b) bs)

pub bigger : (n i : ℕ) (bs : List ℕ) → i < length bs → 10 * n + (get_or bs i 0 - 48) ≤ fold with_digit n (drop i bs)
bigger n i bs h = rw (drop-cons bs i 0) (grows (with_digit n (get_or bs i 0)) (drop (suc i) bs))
