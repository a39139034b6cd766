-- Programs as plain data. X tells variables apart.
use Rattle.std.specs.Prelude.{ℕ, List}
use Rattle.fs_model.specs.Expressions.{Guard, Assignment}
use Rattle.fs_model.specs.Renamed.{guard_over, assignment_over}
use Rattle.fs_model.specs.Source.{Declaration}

-- a block: statements that follow one another, each with its line
pub data Block (X : Type 0) : Type 0 where
  End : Block X
  Do : (line : ℕ) → Assignment X → (rest : Block X) → Block X
  If : (line : ℕ) → Guard X → (on_yes on_no rest : Block X) → Block X
  While : (line : ℕ) → Guard X → (body rest : Block X) → Block X

-- declarations, and the outermost block
pub record Program : Type 0 where
  pub declarations : List Declaration
  pub body : Block (List ℕ)

-- the same block, where f tells the variables
abbrev pub block_over : {X Y : Type 0} → (X → Y) → Block X → Block Y
block_over f End = End
block_over f (Do line a rest) = Do line (assignment_over f a) (block_over f rest)
block_over f (If line g on_yes on_no rest) = If line (guard_over f g) (block_over f on_yes) (block_over f on_no)
    (block_over f rest)
block_over f (While line g body rest) = While line (guard_over f g) (block_over f body) (block_over f rest)

-- one block, and then another
abbrev pub join_blocks : {X : Type 0} → Block X → Block X → Block X
join_blocks End b = b
join_blocks (Do line a rest) b = Do line a (join_blocks rest b)
join_blocks (If line g on_yes on_no rest) b = If line g on_yes on_no (join_blocks rest b)
join_blocks (While line g body rest) b = While line g body (join_blocks rest b)
