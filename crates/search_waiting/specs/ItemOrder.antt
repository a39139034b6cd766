-- The order of waiting items, and sets of them.
use Rattle.std.specs.Prelude.{◌≡◌, ◌≢◌, ℕ, suc, ◌<◌, Bool, true, false, List, Some, slice_get, ◌⊎◌}
use Rattle.std.specs.declared.cmp.Ordering.{Ordering}
use Rattle.std.specs.Ordering.{nat_cmp, ordering_then}
use Rattle.std.specs.BTreeSet.{BTreeSet, contains}
use Rattle.search_waiting.specs.declared.item.Item.{Item}

abbrev pub item : ℕ → ℕ → Item
item i p = record { node = i; place = p }

-- by node, and then by place: the node itself comes before its moves
abbrev pub item_cmp : Item → Item → Ordering
item_cmp a b = ordering_then (nat_cmp a.node b.node) (nat_cmp a.place b.place)

-- whether an item waits
abbrev pub waits : BTreeSet Item → Item → Bool
waits s y = contains item_cmp s y

-- no item before this one waits
pub record IsLeastWaiting (f : Item → Bool) (i p : ℕ) : Type 0 where
  pub of_earlier : (j q : ℕ) → j < i → f (item j q) ≡ false
  pub of_same : (q : ℕ) → q < p → f (item i q) ≡ false

-- one item more waits
pub record Adds (f g : Item → Bool) (x : Item) : Type 0 where
  pub stay : (y : Item) → f y ≡ true → g y ≡ true
  pub fresh : g x ≡ true
  pub only : (y : Item) → g y ≡ true → (f y ≡ true) ⊎ (x ≡ y)

-- one item no longer waits
pub record Drops (f g : Item → Bool) (x : Item) : Type 0 where
  pub stay : (y : Item) → f y ≡ true → x ≢ y → g y ≡ true
  pub gone : g x ≡ false
  pub only : (y : Item) → g y ≡ true → f y ≡ true

-- the first moves of a node wait too
pub record AddsMoves (f g : Item → Bool) (i count : ℕ) : Type 0 where
  pub stay : (y : Item) → f y ≡ true → g y ≡ true
  pub fresh : (p : ℕ) → p < count → g (item i (suc p)) ≡ true
  pub only : (y : Item) → g y ≡ true → (f y ≡ true) ⊎ ((y.node ≡ i) × (y.place ≢ 0))

-- these items wait too
pub record AddsAll (f g : Item → Bool) (ys : List Item) : Type 0 where
  pub stay : (y : Item) → f y ≡ true → g y ≡ true
  pub fresh : (p : ℕ) (y : Item) → slice_get ys p ≡ Some y → g y ≡ true
  pub only : (y : Item) → g y ≡ true → (f y ≡ true) ⊎ ((p : ℕ) × (slice_get ys p ≡ Some y))
