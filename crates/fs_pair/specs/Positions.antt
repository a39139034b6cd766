-- The positions of two machines, each with the place of its partner.
use Rattle.std.specs.Prelude.{List, map}
use Rattle.std.specs.List.{position_from}
use Rattle.fs_model.specs.Machines.{Fsmd}
use Rattle.fs_pair.specs.declared.positions.Position.{Position}
use Rattle.fs_pair.specs.SidedVariables.{SidedVariable, all_sided_variables, is_partner}

-- the position of a variable, with the place of its partner in the list
abbrev pub position_of : List SidedVariable → SidedVariable → Position
position_of ss s = record {
  pos = s.pos;
  role = s.variable.role;
  sort = s.variable.sort;
  partner = position_from (is_partner s) 0 ss;
}

-- the variables of two machines as positions, in order
abbrev pub positions : Fsmd → Fsmd → List Position
positions a b = let ss = all_sided_variables a.variables b.variables in map (position_of ss) ss
