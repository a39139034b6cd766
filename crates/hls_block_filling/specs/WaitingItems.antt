-- Which items wait for earlier ones while rows are filled.
use Rattle.std.specs.Prelude.{◌≡◌, ℕ, zero, suc, ◌+◌, ◌<◌, ◌≤◌, ◌==◌, nat_lt, Bool, true, false, ◌&&◌, cond, List, length, Option}
use Rattle.std.specs.Prelude.{Some, None}
use Rattle.std.specs.List.{slice_index_or}
use Rattle.hls_block_filling.specs.Filling.{ItemGraph, Rows, leaves_row_open, is_ready}
use Rattle.hls_block_filling.specs.declared.effects.Edge.{Edge}
use Rattle.hls_block_filling.specs.declared.effects.Edge.TheVariants.{Apart, Weak, Strict}
use Rattle.hls_block_filling.specs.declared.profiles.Profile.{Profile}
use Rattle.hls_block_filling.specs.Profiles.{edge_at}

-- the rows of the items that are placed
abbrev pub rows_in : List (Option ℕ) → Rows
rows_in rows = λ i. slice_index_or rows i None

-- no item is placed
abbrev pub none_placed : Rows
none_placed i = None

-- an item waits for no earlier one exactly where it may stand in the row
pub record AreReady (g : ItemGraph) (rows : Rows) (r : ℕ) (waits : List ℕ) : Type 0 where
  pub ready : (j : ℕ) → j < g.count → (slice_index_or waits j 0 == 0) ≡ is_ready g rows r j

abbrev pub IsBelow : ℕ → Option ℕ → Type 0
IsBelow n None = Unit {0}
IsBelow n (Some k) = k < n

-- of the items below n, how many hold item j back from row r
abbrev pub waits_below : ItemGraph → Rows → ℕ → ℕ → ℕ → ℕ
waits_below g rows r j zero = 0
waits_below g rows r j (suc n) = waits_below g rows r j n + cond (leaves_row_open g rows r n j) 0 1

-- for each item, how many earlier ones hold it back
pub record AreWaiting (g : ItemGraph) (rows : Rows) (r : ℕ) (waits : List ℕ) : Type 0 where
  pub counted : (j : ℕ) → j < g.count → slice_index_or waits j 0 ≡ waits_below g rows r j j

abbrev pub same_edge : Edge → Edge → Bool
same_edge Apart Apart = true
same_edge Apart Weak = false
same_edge Apart Strict = false
same_edge Weak Apart = false
same_edge Weak Weak = true
same_edge Weak Strict = false
same_edge Strict Apart = false
same_edge Strict Weak = false
same_edge Strict Strict = true

-- whether item k is before item j with an edge of this kind to it
abbrev pub holds_back : List Profile → Edge → ℕ → ℕ → Bool
holds_back table edge k j = nat_lt k j && same_edge (edge_at table k j) edge

-- those waits less by one each that item k no longer holds back
pub record AreReleased (table : List Profile) (edge : Edge) (k : ℕ) (old new : List ℕ) : Type 0 where
  pub count : length new ≡ length old
  pub waits : (j : ℕ) → j < length old → slice_index_or new j 0 + cond (holds_back table edge k j) 1 0 ≡ slice_index_or old j 0

-- the same while a row turns: the items below m are looked at from the next row on
abbrev pub waits_turned : ItemGraph → Rows → ℕ → ℕ → ℕ → ℕ → ℕ
waits_turned g rows r m j zero = 0
waits_turned g rows r m j (suc n) = waits_turned g rows r m j n
    + cond (cond (nat_lt n m) (leaves_row_open g rows (suc r) n j) (leaves_row_open g rows r n j)) 0 1

pub record AreTurned (g : ItemGraph) (rows : Rows) (r m : ℕ) (waits : List ℕ) : Type 0 where
  pub counted : (j : ℕ) → j < g.count → slice_index_or waits j 0 ≡ waits_turned g rows r m j j

-- no item is placed in a later row
pub record AreLow (g : ItemGraph) (rows : Rows) (r : ℕ) : Type 0 where
  pub low : (j k : ℕ) → j < g.count → rows j ≡ Some k → k ≤ r
