-- What the filling needs to know of items, as a graph.
use Rattle.std.specs.Prelude.{◌≡◌, ℕ, zero, suc, ◌-◌, ◌^◌, nat_lt, Bool, true, false, cond, min, max, List, [], length, Option}
use Rattle.std.specs.Prelude.{Some, None, slice_get}
use Rattle.std.specs.List.{list_all, slice_index_or}
use Rattle.hls_unit_counts.specs.declared.units.Unit.TheVariants.{Add, Mul, Div, Mem}
use Rattle.hls_block_filling.specs.ItemUnits.{Units, none_used, used_by}
use Rattle.hls_block_filling.specs.Heights.{heights}
use Rattle.hls_block_filling.specs.Filling.{ItemGraph}
use Rattle.fs_model.specs.SoundMachines.{assigned_in}
use Rattle.hls_block_filling.specs.Items.{Item, reads_of_item, stored_in}
use Rattle.hls_block_filling.specs.declared.effects.Effects.{Effects}
use Rattle.hls_block_filling.specs.declared.effects.Edge.{Edge}
use Rattle.hls_block_filling.specs.declared.effects.Edge.TheVariants.{Apart, Weak, Strict}
use Rattle.hls_block_filling.specs.declared.uses.Uses.{Uses}
use Rattle.hls_block_filling.specs.declared.profiles.Profile.{Profile}
use Rattle.hls_block_filling.specs.EffectSets.{edge_between, sets_of, sets_from, none_changed}

-- a count, at most 2^64 - 1
abbrev pub capped_count : ℕ → ℕ
capped_count n = min n (2 ^ 64 - 1)

abbrev pub units_of_uses : Uses → Units
units_of_uses u Add = u.add
units_of_uses u Mul = u.mul
units_of_uses u Div = u.div
units_of_uses u Mem = u.mem

abbrev pub strict_in : Edge → Bool
strict_in Apart = false
strict_in Weak = false
strict_in Strict = true

abbrev pub weak_in : Edge → Bool
weak_in Apart = false
weak_in Weak = true
weak_in Strict = false

abbrev pub edge_of : Option Profile → Option Profile → Edge
edge_of None q = Apart
edge_of (Some p) None = Apart
edge_of (Some p) (Some q) = edge_between p.effects q.effects

-- the edge from an item to a later one, by their numbers
abbrev pub edge_at : List Profile → ℕ → ℕ → Edge
edge_at table i j = edge_of (slice_get table i) (slice_get table j)

abbrev pub height_of : Option Profile → ℕ
height_of None = 0
height_of (Some p) = p.height

abbrev pub profile_units : Option Profile → Units
profile_units None = none_used
profile_units (Some p) = units_of_uses p.uses

abbrev pub graph_in : List Profile → ItemGraph
graph_in table = record {
  count = length table;
  strict = λ i j. strict_in (edge_at table i j);
  weak = λ i j. weak_in (edge_at table i j);
  height = λ i. height_of (slice_get table i);
  uses = λ i. profile_units (slice_get table i);
}

-- the strict edges of a walk that begins with an edge to an item of a height
abbrev pub through_edge : Edge → ℕ → ℕ
through_edge Apart height = 0
through_edge Weak height = height
through_edge Strict height = suc height

-- the edge from an item of these effects to a later one of those, where both have some
abbrev pub edge_of_effects : Option Effects → Option Effects → Edge
edge_of_effects None f = Apart
edge_of_effects (Some e) None = Apart
edge_of_effects (Some e) (Some f) = edge_between e f

-- the greatest number of strict edges on walks from an item to those after it and before number n, whose heights are known
abbrev pub height_upto : List Effects → List ℕ → ℕ → ℕ → ℕ
height_upto effects known i zero = 0
height_upto effects known i (suc n) = max (height_upto effects known i n)
    (cond (nat_lt i n) (through_edge (edge_of_effects (slice_get effects i) (slice_get effects n)) (slice_index_or known n 0)) 0)

-- the variables of an item are numbered below 128, which sets have room for
pub record IsWithinSets (item : Item) : Type 0 where
  pub reads : list_all (λ x. nat_lt x 128) (reads_of_item item) ≡ true
  pub assigns : list_all (λ x. nat_lt x 128) (assigned_in item) ≡ true
  pub writes : list_all (λ x. nat_lt x 128) (stored_in item) ≡ true

-- profiles of items
pub record AreProfiles (table : List Profile) (items : List Item) : Type 0 where
  pub count : length table ≡ length items
  pub within : (i : ℕ) (p : Profile) → slice_get table i ≡ Some p → IsWithinSets (slice_index_or items i [])
  pub effects : (i : ℕ) (p : Profile) → slice_get table i ≡ Some p
      → sets_of p.effects ≡ sets_from (slice_index_or items i []) none_changed
  pub height : (i : ℕ) (p : Profile) → slice_get table i ≡ Some p → p.height ≡ slice_index_or (heights items) i 0
  pub uses : (i : ℕ) (p : Profile) → slice_get table i ≡ Some p → units_of_uses p.uses ≡ used_by (slice_index_or items i [])
