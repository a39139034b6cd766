-- Where names stand first.
use Rattle.std.specs.Prelude.{◌≡◌, ℕ, suc, cond, List, [], ◌∷◌, length, Option, Some, None, option_map, map}
use Rattle.std.specs.Str.{bytes_eq}
use Rattle.std.specs.Map.{lookup}
use Rattle.fs_model.specs.declared.parts.RawState.{RawState}
use Rattle.fs_model.specs.View.{source_state_of}
use Rattle.fs_rules.specs.MachineOfParts.{state_names}
use Rattle.fs_rules.specs.declared.names.Declared.{Declared}

-- a declared name with its line
abbrev pub declared_of : Declared → ℕ × List ℕ
declared_of d = (d.line, d.name)

-- the names of declared names
abbrev pub declared_name_list : List (ℕ × List ℕ) → List (List ℕ)
declared_name_list ds = map (λ d. d.1) ds

-- the first place of a name, if it has one
abbrev pub first_place : List (List ℕ) → List ℕ → Option ℕ
first_place [] name = None
first_place (n ∷ ns) name = cond (bytes_eq n name) (Some 0) (option_map suc (first_place ns name))

-- the place of a name among names with places, if it is there
abbrev pub place_in : List (List ℕ × ℕ) → List ℕ → Option ℕ
place_in places name = lookup (bytes_eq name) places

-- names with places that have the first place of each name
pub record FindsFirst (places : List (List ℕ × ℕ)) (names : List (List ℕ)) : Type 0 where
  pub finds : (name : List ℕ) → place_in places name ≡ first_place names name

-- a table of names has the first place of each, and their number
pub record IsTableOf (table : List (List ℕ × ℕ) × ℕ) (names : List (List ℕ)) : Type 0 where
  pub first : FindsFirst table.0 names
  pub count : table.1 ≡ length names

-- the names of states
abbrev pub names_stated : List RawState → List (List ℕ)
names_stated states = state_names (map source_state_of states)
