-- Walks of a block, from an item by edges to later ones.
use Rattle.std.specs.Prelude.{◌≡◌, ℕ, suc, ◌<◌, ◌≤◌, true, List, length}
use Rattle.hls_block_filling.specs.Items.{Item}
use Rattle.hls_block_filling.specs.Heights.{chain_of}
use Rattle.hls_block_filling.specs.Filling.{ItemGraph, graph_of}

-- a walk from an item, with so many strict edges
pub data IsItemWalk (g : ItemGraph) : ℕ → ℕ → Type 0 where
  stays : (i : ℕ) → i < g.count → IsItemWalk g i 0
  strictly : (i j n : ℕ) → i < j → g.strict i j ≡ true → IsItemWalk g j n → IsItemWalk g i (suc n)
  weakly : (i j n : ℕ) → i < j → g.weak i j ≡ true → IsItemWalk g j n → IsItemWalk g i n

-- the height of each item is the greatest number of strict edges on walks from it
pub record AreGreatest (items : List Item) : Type 0 where
  pub walks : (i : ℕ) → i < length items → IsItemWalk (graph_of items) i ((graph_of items).height i)
  pub no_greater : (i n : ℕ) → IsItemWalk (graph_of items) i n → n ≤ (graph_of items).height i

-- a walk of a block and where it begins
pub record HasWalk (items : List Item) (n : ℕ) : Type 0 where
  pub first : ℕ
  pub walk : IsItemWalk (graph_of items) first n

-- the chain of a block is 1 plus the greatest number of strict edges on its walks
pub record IsGreatestChain (items : List Item) : Type 0 where
  pub no_greater : (i n : ℕ) → IsItemWalk (graph_of items) i n → n < chain_of items
  pub walks : (n : ℕ) → chain_of items ≡ suc n → HasWalk items n
