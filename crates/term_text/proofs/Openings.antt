-- What is left behind what opens a place.
use Rattle.std.proofs.Common.{◌≡◌, ◌<◌, ◌≤◌, ◌+◌, ◌*◌, ℕ, List, Bor, length, Result, Ok, Err, ap, arith}
use Rattle.std.specs.Result.{IfOk}
use Rattle.term_text.specs.declared.fault.ReadError.{ReadError}
use Rattle.term_text.specs.AtomStarts.{rest_length}

pub opened_measure : Result (Bor (List ℕ)) ReadError → ℕ
opened_measure (Ok r) = 8 * length r.now + 7
opened_measure (Err e) = 0

pub opened_less : (n m : ℕ) (r : Result (Bor (List ℕ)) ReadError) → IfOk r (λ x. length x.now < n) → 8 * n ≤ m → 0 < m → opened_measure r < m
unfolding opened_measure
opened_less n m (Ok x) h at_most some = omega (arith, h, at_most)
opened_less n m (Err e) h at_most some = some

pub inside_less : (r : Result (Bor (List ℕ)) ReadError) (x : Bor (List ℕ)) → r ≡ Ok x → 8 * length x.now + 6 < opened_measure r
unfolding opened_measure
inside_less r x is = let e : opened_measure r ≡ 8 * length x.now + 7 = ap opened_measure is in omega (arith, e)

pub rest_shorter : (n : ℕ) (r : Result (Bor (List ℕ)) ReadError) → IfOk r (λ x. length x.now < n) → rest_length r ≤ n
rest_shorter n (Ok x) h = omega (arith, h)
rest_shorter n (Err e) h = omega arith
