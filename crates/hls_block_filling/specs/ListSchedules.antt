-- List schedules: in each row the highest item that may stand goes first.
use Rattle.std.specs.Prelude.{◌≡◌, ℕ, suc, ◌+◌, ◌<◌, ◌≤◌, true, Some, None}
use Rattle.hls_unit_counts.specs.declared.units.Unit.{Unit as Kind}
use Rattle.hls_block_filling.specs.ItemUnits.{Units, none_used}
use Rattle.hls_block_filling.specs.Filling.{ItemGraph, Rows, place_item, more_units, Filled}

-- an item has a row before another, or one that is no later
pub record IsBefore (rows : Rows) (i r : ℕ) : Type 0 where
  pub row : ℕ
  pub is : rows i ≡ Some row
  pub before : row < r

pub record IsNoLater (rows : Rows) (i r : ℕ) : Type 0 where
  pub row : ℕ
  pub is : rows i ≡ Some row
  pub no_later : row ≤ r

-- an item may be placed in row r, of whose units so many are used
pub record MayStand (g : ItemGraph) (units : Units) (rows : Rows) (r : ℕ) (used : Units) (j : ℕ) : Type 0 where
  pub within : j < g.count
  pub is_open : rows j ≡ None
  pub strict : (i : ℕ) → i < j → g.strict i j ≡ true → IsBefore rows i r
  pub weak : (i : ℕ) → i < j → g.weak i j ≡ true → IsNoLater rows i r
  pub fits : (k : Kind) → used k + g.uses j k ≤ units k

-- of the items that may be placed the one of greatest height, and of these the first
pub record GoesFirst (g : ItemGraph) (units : Units) (rows : Rows) (r : ℕ) (used : Units) (k : ℕ) : Type 0 where
  pub may : MayStand g units rows r used k
  pub no_higher : (j : ℕ) → MayStand g units rows r used j → g.height j ≤ g.height k
  pub first : (j : ℕ) → MayStand g units rows r used j → g.height j ≡ g.height k → k ≤ j

-- from row r on, of whose units so many are used, items are placed one by one, each the one that goes first; the next row
-- begins where none may be placed, and all ends where each has a row
pub data IsListSchedule (g : ItemGraph) (units : Units) : ℕ → Rows → Units → Filled → Type 0 where
  ends : (r : ℕ) (rows : Rows) → ((j : ℕ) → j < g.count → rows j ≡ None → ⊥)
      → IsListSchedule g units r rows none_used (record { rows = rows; count = r })
  places : (r k : ℕ) (rows : Rows) (used : Units) (f : Filled) → GoesFirst g units rows r used k
      → IsListSchedule g units r (place_item rows k r) (more_units used (g.uses k)) f → IsListSchedule g units r rows used f
  goes_on : (r : ℕ) (rows : Rows) (used : Units) (f : Filled) → ((j : ℕ) → MayStand g units rows r used j → ⊥)
      → IsListSchedule g units (suc r) rows none_used f → IsListSchedule g units r rows used f

-- an item of a row
pub record HasItem (g : ItemGraph) (rows : Rows) (r : ℕ) : Type 0 where
  pub item : ℕ
  pub within : item < g.count
  pub is : rows item ≡ Some r
