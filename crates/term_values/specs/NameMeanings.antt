-- What names stand for.
use Rattle.std.specs.Prelude.{ℕ, Bool, false, List, Option, Some, None}
use Rattle.fs_model.specs.declared.sides.Side.{Side}
use Rattle.fs_model.specs.declared.sides.Side.TheVariants.{Left}
use Rattle.fs_model.specs.declared.sides.Pos.{Pos}
use Rattle.nf_terms.specs.declared.symbols.Sort.{Sort}
use Rattle.nf_terms.specs.TermSorts.{same_term_sort}

-- the position of a name of a side, and its sort
abbrev pub Find : Type 0
Find = Side → List ℕ → Option (Pos × Sort)

-- a position for names that have none: they are refused before it counts
abbrev pub nowhere : Pos
nowhere = record { side = Left; var = 0 }

abbrev pub position_meant : Option (Pos × Sort) → Pos
position_meant None = nowhere
position_meant (Some p) = p.0

-- the position of a name
abbrev pub position : Find → Side → List ℕ → Pos
position find s x = position_meant (find s x)

-- whether a name that stands for something stands for something of this sort
abbrev pub name_has_sort : Sort → Option (Pos × Sort) → Bool
name_has_sort wanted None = false
name_has_sort wanted (Some p) = same_term_sort wanted p.1
