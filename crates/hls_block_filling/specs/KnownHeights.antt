-- Heights that are known of the last items.
use Rattle.std.specs.Prelude.{◌≡◌, ℕ, ◌+◌, ◌<◌, ◌≤◌, List, length}
use Rattle.std.specs.List.{slice_index_or}
use Rattle.hls_block_filling.specs.declared.effects.Effects.{Effects}
use Rattle.hls_block_filling.specs.Profiles.{height_upto}

-- of n items, each one from a number on is no higher than there are items behind it
pub record AreLowHeights (n first : ℕ) (heights : List ℕ) : Type 0 where
  pub low : (j : ℕ) → first ≤ j → j < n → slice_index_or heights j 0 + j < n

-- each item from a number on has its height over those behind it
pub record AreHeights (effects : List Effects) (first : ℕ) (heights : List ℕ) : Type 0 where
  pub known : (j : ℕ) → first ≤ j → j < length effects
      → slice_index_or heights j 0 ≡ height_upto effects heights j (length effects)
