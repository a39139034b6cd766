-- The plan of a block, and what it is made from.
use Rattle.std.specs.Prelude.{◌≡◌, ℕ, ◌<◌, List, [], length, Some, slice_get}
use Rattle.std.specs.List.{slice_index_or}
use Rattle.hls_block_filling.specs.Items.{Item}
use Rattle.hls_block_filling.specs.ItemUnits.{used_by}
use Rattle.hls_block_filling.specs.Filling.{Filled}
use Rattle.hls_block_filling.specs.declared.effects.Effects.{Effects}
use Rattle.hls_block_filling.specs.declared.uses.Uses.{Uses}
use Rattle.hls_block_filling.specs.declared.profiles.Profile.{Profile}
use Rattle.hls_block_filling.specs.declared.plan.Plan.{Plan}
use Rattle.hls_block_filling.specs.EffectSets.{sets_of, sets_from, none_changed}
use Rattle.hls_block_filling.specs.Profiles.{units_of_uses, IsWithinSets}
use Rattle.hls_block_filling.specs.WaitingItems.{rows_in}

-- the effects and the uses of items, in their order
pub record AreCountedOf (es : List Effects) (us : List Uses) (items : List Item) : Type 0 where
  pub count : length es ≡ length items
  pub within : (i : ℕ) → i < length items → IsWithinSets (slice_index_or items i [])
  pub effects : (i : ℕ) (e : Effects) → slice_get es i ≡ Some e → sets_of e ≡ sets_from (slice_index_or items i []) none_changed
  pub uses : (i : ℕ) (u : Uses) → slice_get us i ≡ Some u → units_of_uses u ≡ used_by (slice_index_or items i [])

-- profiles with these effects, heights and uses
pub record AreJoined (effects : List Effects) (heights : List ℕ) (uses : List Uses) (table : List Profile) : Type 0 where
  pub count : length table ≡ length effects
  pub effect : (i : ℕ) (p : Profile) → slice_get table i ≡ Some p → slice_get effects i ≡ Some p.effects
  pub height : (i : ℕ) (p : Profile) → slice_get table i ≡ Some p → slice_index_or heights i 0 ≡ p.height
  pub use_of : (i : ℕ) (p : Profile) → slice_get table i ≡ Some p → slice_get uses i ≡ Some p.uses

-- the filling that a plan is
abbrev pub filled_in : Plan → Filled
filled_in p = record { rows = rows_in p.rows.items; count = p.count }
