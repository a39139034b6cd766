-- The first state of a machine a transition of which uses more of a unit than is given, and that unit.
use Rattle.std.specs.Prelude.{ℕ, nat_lt, List, [], ◌∷◌, map, Option, None, option_map}
use Rattle.std.specs.List.{find}
use Rattle.std.specs.Option.{option_or}
use Rattle.fs_model.specs.Machines.{Fsmd, transitions_of}
use Rattle.fs_model.specs.Trees.{Branch, branches_of}
use Rattle.hls_unit_counts.specs.declared.units.Unit.{Unit as Kind}
use Rattle.hls_unit_counts.specs.declared.units.Unit.TheVariants.{Add, Mul, Div, Mem}
use Rattle.hls_block_filling.specs.Items.{Item}
use Rattle.hls_block_filling.specs.BasicBlocks.{all_states}
use Rattle.hls_block_filling.specs.ItemUnits.{Units, used_by}

-- the first of these that there is
abbrev pub first_of : {A : Type 0} → List (Option A) → Option A
first_of [] = None
first_of (o ∷ os) = option_or o (first_of os)

-- the first kind of which an item uses more than is given
abbrev pub over_of : Units → Item → Option Kind
over_of units item = find (λ kind. nat_lt (units kind) (used_by item kind)) (Add ∷ Mul ∷ Div ∷ Mem ∷ [])

-- that of the first of branches that uses more of one
abbrev pub over_among : Units → List Branch → Option Kind
over_among units bs = first_of (map (λ b. over_of units b.assignments) bs)

-- a state with that of its branches
abbrev pub over_at : Units → Fsmd → ℕ → Option (ℕ × Kind)
over_at units m q = option_map (λ kind. (q, kind)) (over_among units (branches_of (transitions_of m q)))

-- the first state that has one, with it
abbrev pub over_in : Units → Fsmd → Option (ℕ × Kind)
over_in units m = first_of (map (over_at units m) (all_states m))
