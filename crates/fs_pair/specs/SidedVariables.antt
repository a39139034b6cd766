-- The variables of two machines in one order.
use Rattle.std.specs.Prelude.{ℕ, ◌+◌, Bool, not, ◌&&◌, List, [], ◌∷◌, ◌++◌, Option}
use Rattle.std.specs.List.{find, filter, list_any, flat_map}
use Rattle.std.specs.Option.{option_to_list}
use Rattle.std.specs.Str.{bytes_eq}
use Rattle.fs_model.specs.declared.parts.VarInfo.{VarInfo}
use Rattle.fs_model.specs.declared.sides.Side.{Side}
use Rattle.fs_model.specs.declared.sides.Side.TheVariants.{Left, Right}
use Rattle.fs_model.specs.declared.sides.Pos.{Pos}
use Rattle.fs_model.specs.Sides.{same_side}
use Rattle.fs_pair.specs.Interfaces.{same_sort}

-- a variable and its position
pub record SidedVariable : Type 0 where
  pub pos : Pos
  pub variable : VarInfo

-- the variables of a side, numbered from x on
abbrev pub sided_variables : Side → ℕ → List VarInfo → List SidedVariable
sided_variables side x [] = []
sided_variables side x (v ∷ vs) = record { pos = record { side = side; var = x }; variable = v } ∷ sided_variables side (x + 1) vs

-- whether two variables have one name and one sort
abbrev pub same_name_and_sort : VarInfo → VarInfo → Bool
same_name_and_sort v u = bytes_eq u.name v.name && same_sort u.sort v.sort

-- the first with the name and the sort of a variable
abbrev pub partner_among : List SidedVariable → VarInfo → Option SidedVariable
partner_among others v = find (λ s. same_name_and_sort v s.variable) others

-- each, followed by its partner if there is one
abbrev pub with_partners : List SidedVariable → List SidedVariable → List SidedVariable
with_partners ss others = flat_map (λ s. s ∷ option_to_list (partner_among others s.variable)) ss

-- whether no other has its name and its sort
abbrev pub is_alone : List SidedVariable → SidedVariable → Bool
is_alone others s = not (list_any (λ t. same_name_and_sort s.variable t.variable) others)

-- the variables of the left side, each followed by its partner, then the others of the right side
abbrev pub all_sided_variables : (left right : List VarInfo) → List SidedVariable
all_sided_variables left right = with_partners (sided_variables Left 0 left) (sided_variables Right 0 right)
    ++ filter (is_alone (sided_variables Left 0 left)) (sided_variables Right 0 right)

-- whether t is the other side's variable of the name and the sort of s
abbrev pub is_partner : SidedVariable → SidedVariable → Bool
is_partner s t = not (same_side s.pos.side t.pos.side) && same_name_and_sort s.variable t.variable
