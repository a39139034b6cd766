-- The filling of rows, one after another.
use Rattle.std.specs.Prelude.{◌≡◌, ℕ, zero, suc, ◌+◌, ◌<◌, ◌≤◌, ◌==◌, nat_lt, Bool, true, false, not, ◌&&◌, cond, List, [], ◌∷◌}
use Rattle.std.specs.Prelude.{length, Option, Some, None}
use Rattle.std.specs.Option.{is_none}
use Rattle.std.specs.List.{list_all, range_with_len, slice_index_or}
use Rattle.fs_model.specs.Expressions.{Assignment}
use Rattle.hls_block_filling.specs.Items.{Item, is_strict, is_weak}
use Rattle.hls_block_filling.specs.Placings.{PlacedOver, rows_of}
use Rattle.hls_block_filling.specs.ItemUnits.{Units, none_used, used_by, suffice}
use Rattle.hls_block_filling.specs.Heights.{heights}

-- items by their numbers
pub record ItemGraph : Type 0 where
  pub count : ℕ
  pub strict : ℕ → ℕ → Bool
  pub weak : ℕ → ℕ → Bool
  pub height : ℕ → ℕ
  pub uses : ℕ → Units

abbrev pub graph_of : List Item → ItemGraph
graph_of items = record {
  count = length items;
  strict = λ i j. is_strict (slice_index_or items i []) (slice_index_or items j []);
  weak = λ i j. is_weak (slice_index_or items i []) (slice_index_or items j []);
  height = λ i. slice_index_or (heights items) i 0;
  uses = λ i. used_by (slice_index_or items i []);
}

-- the row of each item that is placed
abbrev pub Rows : Type 0
Rows = ℕ → Option ℕ

abbrev pub place_item : Rows → ℕ → ℕ → Rows
place_item rows k r i = cond (i == k) (Some r) (rows i)

abbrev pub is_before : ℕ → Option ℕ → Bool
is_before r None = false
is_before r (Some k) = nat_lt k r

abbrev pub is_by : ℕ → Option ℕ → Bool
is_by r None = false
is_by r (Some k) = not (nat_lt r k)

-- whether item i leaves row r open to a later item j
abbrev pub leaves_row_open : ItemGraph → Rows → ℕ → ℕ → ℕ → Bool
leaves_row_open g rows r i j = cond (g.strict i j) (is_before r (rows i)) (cond (g.weak i j) (is_by r (rows i)) true)

abbrev pub is_ready : ItemGraph → Rows → ℕ → ℕ → Bool
is_ready g rows r j = list_all (λ i. leaves_row_open g rows r i j) (range_with_len 0 j)

-- whether an item may be placed in row r, of whose units so many are used
abbrev pub may_stand : ItemGraph → Units → Rows → ℕ → Units → ℕ → Bool
may_stand g units rows r used j = is_none (rows j) && is_ready g rows r j && suffice units used (g.uses j)

-- of the numbers below n that pass the test, the one of greatest height, and of these the first
abbrev pub higher_of : (ℕ → ℕ) → ℕ → Option ℕ → ℕ
higher_of height n None = n
higher_of height n (Some k) = cond (nat_lt (height k) (height n)) n k

abbrev pub highest_number : (ℕ → Bool) → (ℕ → ℕ) → ℕ → Option ℕ
highest_number test height zero = None
highest_number test height (suc n) = cond (test n) (Some (higher_of height n (highest_number test height n)))
    (highest_number test height n)

abbrev pub next_item : ItemGraph → Units → Rows → ℕ → Units → Option ℕ
next_item g units rows r used = highest_number (may_stand g units rows r used) g.height g.count

abbrev pub more_units : Units → Units → Units
more_units used uses k = used k + uses k

-- row r is filled, by n more items at most
abbrev pub row_filled : ItemGraph → Units → ℕ → ℕ → Rows → Units → Rows
row_filled g units zero r rows used = rows
row_filled g units (suc n) r rows used =
    elim (next_item g units rows r used) as (λ _. Rows) [
      | None ↦ rows
      | Some k ↦ row_filled g units n r (place_item rows k r) (more_units used (g.uses k))
    ]

abbrev pub all_placed : ItemGraph → Rows → Bool
all_placed g rows = list_all (λ i. not (is_none (rows i))) (range_with_len 0 g.count)

pub record Filled : Type 0 where
  pub rows : Rows
  pub count : ℕ

-- n rows at most are filled, from row r on
abbrev pub filled_from : ItemGraph → Units → ℕ → ℕ → Rows → Filled
filled_from g units zero r rows = record { rows = rows; count = r }
filled_from g units (suc n) r rows = cond (all_placed g rows) (record { rows = rows; count = r })
    (filled_from g units n (suc r) (row_filled g units g.count r rows none_used))

abbrev pub filling_of : ItemGraph → Units → Filled
filling_of g units = filled_from g units g.count 0 (λ i. None)

abbrev pub is_in : ℕ → Option ℕ → Bool
is_in r None = false
is_in r (Some k) = k == r

-- what is used in row r by items below n
abbrev pub used_below : ItemGraph → Rows → ℕ → ℕ → Units
used_below g rows r zero k = 0
used_below g rows r (suc n) k = used_below g rows r n k + cond (is_in r (rows n)) (g.uses n k) 0

abbrev pub used_in : ItemGraph → Rows → ℕ → Units
used_in g rows r k = used_below g rows r g.count k

-- what all items below n use
abbrev pub used_by_all : ItemGraph → ℕ → Units
used_by_all g zero k = 0
used_by_all g (suc n) k = used_by_all g n k + g.uses n k

-- each item alone is within the units
abbrev pub EachItemFits : ItemGraph → Units → Type 0
EachItemFits g units = (j : ℕ) → j < g.count → suffice units none_used (g.uses j) ≡ true

-- what holds of a filling
pub record IsFilled (g : ItemGraph) (units : Units) (f : Filled) : Type 0 where
  pub placed : (j : ℕ) → j < g.count → is_before f.count (f.rows j) ≡ true
  pub valid : (i j k : ℕ) → i < j → j < g.count → f.rows j ≡ Some k → leaves_row_open g f.rows k i j ≡ true
  pub within : (r : ℕ) → suffice units none_used (used_in g f.rows r) ≡ true
  pub no_more : f.count ≤ g.count

-- the row of an item that is placed
abbrev pub row_or : Option ℕ → ℕ
row_or None = 0
row_or (Some k) = k

-- items with their rows, the first one's number being k
abbrev pub placed_from : {X : Type 0} → ℕ → List (List (Assignment X)) → Rows → List (PlacedOver X)
placed_from k [] rows = []
placed_from k (a ∷ items) rows = record { item = a; row = row_or (rows k) } ∷ placed_from (suc k) items rows

abbrev pub placed_by : {X : Type 0} → List (List (Assignment X)) → Filled → List (PlacedOver X)
placed_by items f = placed_from 0 items f.rows

-- the rows of a block, each as one item
abbrev pub new_rows : Units → List Item → List Item
new_rows units items = let f = filling_of (graph_of items) units in rows_of f.count (placed_by items f)
