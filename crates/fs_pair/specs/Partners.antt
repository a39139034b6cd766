-- What positions and their partners are.
use Rattle.std.specs.Prelude.{◌≡◌, ℕ, ◌<◌, ◌==◌, Bool, false, ◌&&◌, List, map, Some, None, slice_get}
use Rattle.std.specs.List.{range_with_len}
use Rattle.fs_model.specs.declared.parts.VarInfo.{VarInfo}
use Rattle.fs_model.specs.Machines.{Fsmd}
use Rattle.fs_model.specs.declared.sides.Side.{Side}
use Rattle.fs_model.specs.declared.sides.Side.TheVariants.{Left, Right}
use Rattle.fs_model.specs.declared.sides.Pos.{Pos}
use Rattle.fs_model.specs.VariableNames.{name_or_nothing}
use Rattle.fs_model.specs.Sides.{same_side}
use Rattle.fs_pair.specs.declared.positions.Position.{Position}
use Rattle.fs_pair.specs.Positions.{positions}

-- the variables of one of two machines
abbrev pub variables_on : Side → Fsmd → Fsmd → List VarInfo
variables_on Left a b = a.variables
variables_on Right a b = b.variables

-- whether it is variable x of a side
abbrev pub is_position_of : Side → ℕ → Pos → Bool
is_position_of side x p = same_side p.side side && (p.var == x)

-- the first n variables of a side, in order
abbrev pub side_positions : Side → ℕ → List Pos
side_positions side n = map (λ x. record { side = side; var = x }) (range_with_len 0 n)

-- a position is a variable of its side, with its role and its sort
pub record IsVariable (a b : Fsmd) (p : Position) (v : VarInfo) : Type 0 where
  pub is : slice_get (variables_on p.pos.side a b) p.pos.var ≡ Some v
  pub role : p.role ≡ v.role
  pub sort : p.sort ≡ v.sort

pub record StandsForVariable (a b : Fsmd) (p : Position) : Type 0 where
  pub variable : VarInfo
  pub is : IsVariable a b p variable

-- at place j stands a variable of the other side, with the name and the sort of a position
pub record HasPartner (a b : Fsmd) (p : Position) (j : ℕ) : Type 0 where
  pub variable : VarInfo
  pub is : IsVariable a b p variable
  pub partner : Position
  pub at : slice_get (positions a b) j ≡ Some partner
  pub other : VarInfo
  pub partner_is : IsVariable a b partner other
  pub sides : same_side p.pos.side partner.pos.side ≡ false
  pub name : other.name ≡ variable.name
  pub sort : partner.sort ≡ p.sort

-- a right variable without partner, of a larger number
pub record ComesLater (p q : Position) : Type 0 where
  pub right : q.pos.side ≡ Right
  pub alone : q.partner ≡ None
  pub later : p.pos.var < q.pos.var

-- the name of a position
abbrev pub position_name : (a b : Fsmd) → Pos → List ℕ
position_name a b p = name_or_nothing (slice_get (variables_on p.side a b) p.var)
