-- The data that a value stands for.
use Rattle.std.specs.Prelude.{List, [], ◌∷◌, map, ℕ}
use Rattle.std.specs.Borrow.{Bor}
use Rattle.serde_json.specs.Data.{Data, null, boolean, number, string, array, object, Items, Members, no_members, member}
use Rattle.serde_json.specs.View.{number_view, items_of}
use Rattle.cert_values.specs.declared.value.Value.{Value, fold-Value}
use Rattle.cert_values.specs.declared.value.Value.TheOpen.{Value-F}

-- names that are borrowed, with their data
abbrev pub borrowed_members : List (Bor (List ℕ) × Data) → Members
borrowed_members [] = no_members
borrowed_members (m ∷ ms) = member m.0.now m.1 (borrowed_members ms)

-- one level, with each value inside already seen as its data
abbrev pub view_step : Value-F Data → Data
view_step Value-F.Null = null
view_step (Value-F.Bool b) = boolean b
view_step (Value-F.Number x) = number (number_view x)
view_step (Value-F.String s) = string s.now
view_step (Value-F.Array v) = array (items_of v.items)
view_step (Value-F.Object m) = object (borrowed_members m.entries)

abbrev pub view : Value → Data
view = fold-Value Data view_step

abbrev pub items_view : List Value → Items
items_view vs = items_of (map view vs)

abbrev pub members_view : List (Bor (List ℕ) × Value) → Members
members_view ms = borrowed_members (map (λ m. (m.0, view m.1)) ms)
