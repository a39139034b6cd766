-- Items placed in rows.
use Rattle.std.specs.Prelude.{ℕ, zero, suc, ◌==◌, nat_lt, Bool, true, not, ◌&&◌, cond, List, [], ◌∷◌, ◌++◌, map, filter}
use Rattle.std.specs.List.{list_all}
use Rattle.fs_model.specs.Expressions.{Assignment}
use Rattle.hls_block_filling.specs.Items.{is_strict, is_weak}

-- an item with its row. X tells variables apart: numbers of a machine, or names of a text
pub record PlacedOver (X : Type 0) : Type 0 where
  pub item : List (Assignment X)
  pub row : ℕ

abbrev pub Placed : Type 0
Placed = PlacedOver ℕ

abbrev pub items_of : {X : Type 0} → List (PlacedOver X) → List (List (Assignment X))
items_of ps = map (λ p. p.item) ps

-- of two placed items in their order: less on a strict edge, not greater on a weak one
abbrev pub respects_edge : Placed → Placed → Bool
respects_edge p q = cond (is_strict p.item q.item) (nat_lt p.row q.row)
    (cond (is_weak p.item q.item) (not (nat_lt q.row p.row)) true)

-- a valid placing of items in their order
abbrev pub is_valid : List Placed → Bool
is_valid [] = true
is_valid (p ∷ ps) = list_all (respects_edge p) ps && is_valid ps

abbrev pub all_below : ℕ → List Placed → Bool
all_below n ps = list_all (λ p. nat_lt p.row n) ps

-- the assignments of items as those of one item, in their order
abbrev pub join_assignments : {X : Type 0} → List (PlacedOver X) → List (Assignment X)
join_assignments [] = []
join_assignments (p ∷ ps) = p.item ++ join_assignments ps

-- the items of a row, in their order
abbrev pub row_at : {X : Type 0} → ℕ → List (PlacedOver X) → List (PlacedOver X)
row_at k ps = filter (λ p. p.row == k) ps

-- n rows from row k on, each as one item
abbrev pub rows_from : {X : Type 0} → ℕ → ℕ → List (PlacedOver X) → List (List (Assignment X))
rows_from k zero ps = []
rows_from k (suc n) ps = join_assignments (row_at k ps) ∷ rows_from (suc k) n ps

abbrev pub rows_of : {X : Type 0} → ℕ → List (PlacedOver X) → List (List (Assignment X))
rows_of n ps = rows_from 0 n ps
