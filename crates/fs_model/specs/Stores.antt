-- Stores: what the variables of a machine hold, by their numbers.
use Rattle.std.specs.Prelude.{ℕ, ◌==◌, cond, ℤ, List, [], ◌∷◌, ◌++◌}
use Rattle.std.specs.Ordering.{int_eq}

-- A number for each scalar, for each array a number at each index, and for each port the numbers emitted so far, in order.
pub record Store : Type 0 where
  pub scalar : ℕ → ℤ
  pub array : ℕ → ℤ → ℤ
  pub port : ℕ → List ℤ

-- the store after an assignment to a scalar
abbrev pub store_with_number : Store → ℕ → ℤ → Store
store_with_number s x v = record { scalar = λ y. cond (y == x) v (s.scalar y); array = s.array; port = s.port }

-- the store after a write to an array at an index
abbrev pub store_with_entry : Store → ℕ → ℤ → ℤ → Store
store_with_entry s x i v = record {
  scalar = s.scalar;
  array = λ y j. cond (y == x) (cond (int_eq i j) v (s.array y j)) (s.array y j);
  port = s.port;
}

-- the store after a number is emitted to a port
abbrev pub store_with_emit : Store → ℕ → ℤ → Store
store_with_emit s x v = record { scalar = s.scalar; array = s.array; port = λ y. cond (y == x) (s.port y ++ v ∷ []) (s.port y) }
