-- A block with the rows of its filling as a list.
use Rattle.std.proofs.Common.{◌≡◌, ℕ, zero, suc, ◌+◌, ◌<◌, ◌≤◌, List, [], ◌∷◌, refl, ap, subst, arith, Bool, true, Option, Some, None, length}
use Rattle.std.specs.Prelude.{not, nat_lt, cond}
use Rattle.std.specs.List.{list_all, slice_index_or}
use Rattle.std.proofs.lemmas.Bool.{and_from}
use Rattle.hls_block_filling.specs.Items.{Item, is_strict, is_weak}
use Rattle.hls_block_filling.specs.Placings.{items_of, respects_edge, is_valid, all_below}
use Rattle.hls_block_filling.specs.ItemUnits.{Units}
use Rattle.hls_block_filling.specs.Heights.{strict_edges_through, height_over, heights, chain_of}
use Rattle.hls_block_filling.specs.Filling.{graph_of, Rows, is_before, is_by, filling_of, EachItemFits, row_or, placed_from, placed_by}
use Rattle.hls_block_filling.proofs.Placings.{is_filled}

pub same_items : (items : List Item) (k : ℕ) (rows : Rows) → items_of (placed_from k items rows) ≡ items
same_items [] k rows = refl
same_items (a ∷ items) k rows = ap (λ z. a ∷ z) (same_items items (suc k) rows)

-- whether items with rows leave each other what edges ask, by item and row
abbrev Pairwise : (ℕ → Item) → Rows → ℕ → Type 0
Pairwise item rows n = (i j : ℕ) → i < j → j < n
    → respects_edge (record { item = item i; row = row_or (rows i) }) (record { item = item j; row = row_or (rows j) }) ≡ true

module _ (item : ℕ → Item) (rows : Rows) (n : ℕ) (pairwise : Pairwise item rows n) where
  abbrev Agrees : ℕ → List Item → Type 0
  Agrees k items = (i : ℕ) → i < length items → item (k + i) ≡ slice_index_or items i []

  agrees_later : (k : ℕ) (a : Item) (items : List Item) → Agrees k (a ∷ items) → Agrees (suc k) items
  agrees_later k a items h i p = subst (λ z. item z ≡ slice_index_or items i []) (let e : k + suc i ≡ suc k + i = omega arith in e)
      (h (suc i) (omega (arith, p)))

  agrees_first : (k : ℕ) (a : Item) (items : List Item) → Agrees k (a ∷ items) → item k ≡ a
  agrees_first k a items h = subst (λ z. item z ≡ a) (let e : k + 0 ≡ k = omega arith in e) (h 0 (omega arith))

  fits_rest : (items : List Item) (k i : ℕ) → Agrees k items → k + length items ≤ n → i < k
      → list_all (respects_edge (record { item = item i; row = row_or (rows i) })) (placed_from k items rows) ≡ true
  fits_rest [] k i h b p = refl
  fits_rest (a ∷ items) k i h b p =
      and_from _ _
      (subst (λ z. respects_edge (record { item = item i; row = row_or (rows i) }) (record { item = z; row = row_or (rows k) }) ≡ true)
      (agrees_first k a items h) (pairwise i k p (omega (arith, b))))
      (fits_rest items (suc k) i (agrees_later k a items h) (omega (arith, b)) (omega (arith, p)))

  pub all_fit : (items : List Item) (k : ℕ) → Agrees k items → k + length items ≤ n → is_valid (placed_from k items rows) ≡ true
  all_fit [] k h b = refl
  all_fit (a ∷ items) k h b =
      and_from _ _
      (subst (λ z. list_all (respects_edge (record { item = z; row = row_or (rows k) })) (placed_from (suc k) items rows) ≡ true) (agrees_first k a items h)
      (fits_rest items (suc k) k (agrees_later k a items h) (omega (arith, b)) (omega arith)))
      (all_fit items (suc k) (agrees_later k a items h) (omega (arith, b)))

low_row : (r : ℕ) (o : Option ℕ) → is_before r o ≡ true → nat_lt (row_or o) r ≡ true
low_row r None e = absurd (cc e)
low_row r (Some k) e = e

low_rows : (items : List Item) (k r : ℕ) (rows : Rows) → ((j : ℕ) → j < k + length items → is_before r (rows j) ≡ true)
    → all_below r (placed_from k items rows) ≡ true
low_rows [] k r rows h = refl
low_rows (a ∷ items) k r rows h =
    and_from _ _ (low_row r (rows k) (h k (omega arith))) (low_rows items (suc k) r rows (λ j p. h j (omega (arith, p))))

pair_fits : (a b : Bool) (o p : Option ℕ) (r : ℕ) → is_before r o ≡ true → is_before r p ≡ true
    → ((k : ℕ) → p ≡ Some k → cond a (is_before k o) (cond b (is_by k o) true) ≡ true)
    → cond a (nat_lt (row_or o) (row_or p)) (cond b (not (nat_lt (row_or p) (row_or o))) true) ≡ true
pair_fits a b None p r e f h = absurd (cc e)
pair_fits a b (Some i) None r e f h = absurd (cc f)
pair_fits a b (Some i) (Some j) r e f h = h j refl

module _ (items : List Item) (units : Units) (each : EachItemFits (graph_of items) units) where
  pairs : Pairwise (λ i. slice_index_or items i []) (filling_of (graph_of items) units).rows (length items)
  pairs i j p q =
      let rows = (filling_of (graph_of items) units).rows in
      pair_fits (is_strict (slice_index_or items i []) (slice_index_or items j [])) (is_weak (slice_index_or items i []) (slice_index_or items j [])) (rows i)
      (rows j) (filling_of (graph_of items) units).count
      ((is_filled (graph_of items) units each).placed i (omega (arith, p, q))) ((is_filled (graph_of items) units each).placed j q)
      (λ k e. (is_filled (graph_of items) units each).valid i j k p q e)

  pub placed_valid : is_valid (placed_by items (filling_of (graph_of items) units)) ≡ true
  placed_valid = all_fit (λ i. slice_index_or items i []) (filling_of (graph_of items) units).rows (length items) pairs items 0
      (λ i p. ap (λ z. slice_index_or items z []) (let e : 0 + i ≡ i = omega arith in e)) (omega arith)

  pub placed_below : all_below (filling_of (graph_of items) units).count (placed_by items (filling_of (graph_of items) units)) ≡ true
  placed_below = low_rows items 0 (filling_of (graph_of items) units).count (filling_of (graph_of items) units).rows
      (λ j p. (is_filled (graph_of items) units each).placed j (omega (arith, p)))

-- ---- heights by number
-- the height of an item is more than that of one to which it has a strict edge, and no less on a weak one
over_each : (a : Item) (items : List Item) (j : ℕ) → j < length items
    → strict_edges_through a (slice_index_or items j []) (slice_index_or (heights items) j 0) ≤ height_over a items (heights items)
over_each a [] j h = absurd (omega (arith, h))
over_each a (b ∷ items) zero h = omega arith
over_each a (b ∷ items) (suc j) h = omega (arith, over_each a items j (omega (arith, h)))

pub heights_fall : (items : List Item) (i j : ℕ) → i < j → j < length items
    → strict_edges_through (slice_index_or items i []) (slice_index_or items j []) (slice_index_or (heights items) j 0) ≤ slice_index_or (heights items) i 0
heights_fall [] i j p q = absurd (omega (arith, q))
heights_fall (a ∷ items) zero zero p q = absurd (omega (arith, p))
heights_fall (a ∷ items) (suc i) zero p q = absurd (omega (arith, p))
heights_fall (a ∷ items) zero (suc j) p q = over_each a items j (omega (arith, q))
heights_fall (a ∷ items) (suc i) (suc j) p q = heights_fall items i j (omega (arith, p)) (omega (arith, q))

pub below_chain : (items : List Item) (i : ℕ) → i < length items → slice_index_or (heights items) i 0 < chain_of items
below_chain [] i p = absurd (omega (arith, p))
below_chain (a ∷ items) zero p = omega arith
below_chain (a ∷ items) (suc i) p = omega (arith, below_chain items i (omega (arith, p)))
