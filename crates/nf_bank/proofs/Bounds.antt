-- Bounds of lists.
use Rattle.std.proofs.Common.{◌≡◌, ℕ, zero, suc, ◌<◌, ◌≤◌, max, List, [], ◌∷◌, ◌++◌, length, get_or, arith, ap}
use Rattle.nf_bank.specs.AtomNumbers.{bound_over}

pub max_left : (a b n : ℕ) → max a b ≤ n → a ≤ n
max_left a b n h = omega arith

pub max_right : (a b n : ℕ) → max a b ≤ n → b ≤ n
max_right a b n h = omega arith

pub max_both : (a b n : ℕ) → a ≤ n → b ≤ n → max a b ≤ n
max_both a b n g h = omega arith

module _ {T : Type 0} (bound : T → ℕ) where
  -- an item's bound is at most that of the list
  pub bound_of_item : (xs : List T) (k : ℕ) (x : T) → k < length xs → x ≡ get_or xs k x → bound x ≤ bound_over bound xs
  bound_of_item [] k x h e = absurd (omega arith)
  bound_of_item (y ∷ ys) zero x h e = let f : bound x ≡ bound y = ap bound e in omega arith
  bound_of_item (y ∷ ys) (suc k) x h e = let f : bound x ≤ bound_over bound ys = bound_of_item ys k x (omega arith) e in omega arith

  pub bound_push : (xs : List T) (x : T) (n : ℕ) → bound_over bound xs ≤ n → bound x ≤ n → bound_over bound (xs ++ x ∷ []) ≤ n
  bound_push [] x n g h = max_both (bound x) 0 n h (omega arith)
  bound_push (y ∷ ys) x n g h =
      max_both (bound y) (bound_over bound (ys ++ x ∷ [])) n (max_left (bound y) (bound_over bound ys) n g)
      (bound_push ys x n (max_right (bound y) (bound_over bound ys) n g) h)
