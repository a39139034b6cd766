-- What is counted of the items of a block.
use Rattle.std.specs.Prelude.{◌≡◌, ℕ, ◌^◌, ◌<◌, List, [], length, Some, slice_get}
use Rattle.std.specs.List.{slice_index_or}
use Rattle.hls_unit_counts.specs.declared.units.Unit.{Unit as Kind}
use Rattle.hls_block_filling.specs.Items.{Item}
use Rattle.hls_block_filling.specs.ItemUnits.{Units, used_by}
use Rattle.hls_block_filling.specs.declared.effects.Effects.{Effects}
use Rattle.hls_block_filling.specs.declared.uses.Uses.{Uses}
use Rattle.hls_block_filling.specs.EffectSets.{sets_of, sets_from, none_changed}
use Rattle.hls_block_filling.specs.Profiles.{units_of_uses, capped_count}

-- no count of units is greater than a count of uses can be
abbrev pub AreCounts : Units → Type 0
AreCounts units = (kind : Kind) → units kind < 2 ^ 64

-- the effects of items and their uses, each at most 2^64 - 1, in their order
pub record AreCounted (es : List Effects) (us : List Uses) (items : List Item) : Type 0 where
  pub count : length es ≡ length items
  pub same : length us ≡ length items
  pub effects : (i : ℕ) (e : Effects) → slice_get es i ≡ Some e → sets_of e ≡ sets_from (slice_index_or items i []) none_changed
  pub uses : (i : ℕ) (u : Uses) (kind : Kind) → slice_get us i ≡ Some u
      → units_of_uses u kind ≡ capped_count (used_by (slice_index_or items i []) kind)
