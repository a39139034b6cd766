-- Literals of two lists that clash.
use Rattle.std.specs.Prelude.{◌≡◌, ℕ, true, List, Some, slice_get}
use Rattle.nf_rel.specs.Literals.{NormalLiteral, clash}

-- a literal of the first list clashes with one of the second
pub record SomeClash (ls ms : List NormalLiteral) : Type 0 where
  pub left : ℕ
  pub right : ℕ
  pub literal : NormalLiteral
  pub other : NormalLiteral
  pub left_at : slice_get ls left ≡ Some literal
  pub right_at : slice_get ms right ≡ Some other
  pub clashes : clash literal other ≡ true
