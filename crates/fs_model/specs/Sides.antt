-- The two sides of a pair of machines.
use Rattle.std.specs.Prelude.{Bool, false, true}
use Rattle.fs_model.specs.declared.sides.Side.TheVariants.{Left, Right}
use Rattle.fs_model.specs.declared.sides.Side.{Side}

-- whether two sides are the same
abbrev pub same_side : Side → Side → Bool
same_side Left Left = true
same_side Left Right = false
same_side Right Left = false
same_side Right Right = true
