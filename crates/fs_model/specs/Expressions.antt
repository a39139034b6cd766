-- Expressions, guards and assignments as plain data. X tells variables apart, and S states.
use Rattle.std.specs.Prelude.{ℤ, List, Option}
use Rattle.fs_model.specs.declared.parts.Rel.{Rel}

pub data Expression (X : Type 0) : Type 0 where
  Number : ℤ → Expression X
  Variable : X → Expression X
  Read : X → (index : Expression X) → Expression X
  Sum : (a b : Expression X) → Expression X
  Difference : (a b : Expression X) → Expression X
  Product : (a b : Expression X) → Expression X
  Quotient : (a b : Expression X) → Expression X
  Remainder : (a b : Expression X) → Expression X
  Negative : Expression X → Expression X

pub record Literal (X : Type 0) : Type 0 where
  pub relation : Rel
  pub left : Expression X
  pub right : Expression X

pub data Guard (X : Type 0) : Type 0 where
  Test : Literal X → Guard X
  Not : Guard X → Guard X
  And : (a b : Guard X) → Guard X
  Or : (a b : Guard X) → Guard X

-- a scalar is assigned, an array is written at an index, or a number is emitted to a port
pub data Assignment (X : Type 0) : Type 0 where
  Assign : X → Expression X → Assignment X
  ArrayWrite : X → (index value : Expression X) → Assignment X
  Emit : X → (value : Expression X) → Assignment X

-- a transition: it is taken where its guard holds, or always where it has none
pub record Transition (X S : Type 0) : Type 0 where
  pub guard : Option (Guard X)
  pub target : S
  pub assignments : List (Assignment X)
