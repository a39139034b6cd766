-- A schedule keeps behaviour and lengths.
use Rattle.std.proofs.Common.{◌≡◌, ℕ, zero, suc, ◌<◌, ◌≤◌, refl, sym, ◌∙◌, ap, subst, arith, Bool, true, false, List, [], ◌∷◌, map, length}
use Rattle.std.specs.Prelude.{◌≢◌, cond, slice_get}
use Rattle.std.specs.List.{slice_index_or}
use Rattle.std.proofs.lemmas.Bool.{not-true}
use Rattle.fs_model.proofs.Lists.{one_element, length_map}
use Rattle.fs_model.specs.Expressions.{Transition}
use Rattle.fs_model.specs.Machines.{Fsmd, transitions_of}
use Rattle.fs_model.specs.Runs.{SameBehaviour}
use Rattle.fs_model.specs.Trees.{Branch, branches_of}
use Rattle.fs_model.specs.SoundMachines.{IsSound, is_cutpoint}
use Rattle.fs_cut.specs.Paths.{branch_at}
use Rattle.fs_ast.proofs.OneBranch.{only_transition}
use Rattle.fs_cut.proofs.Branches.{some_branch, few}
use Rattle.hls_block_filling.specs.Items.{Item, store_after_items}
use Rattle.hls_block_filling.specs.Placings.{Placed, rows_from}
use Rattle.hls_block_filling.proofs.IntoRows.{rows_keep_the_store}
use Rattle.hls_block_filling.specs.BasicBlocks.{is_in_block, next_state, block_from, basic_block_at, is_first_of_block, item_of, items_at, follows}
use Rattle.hls_block_filling.specs.RowMachines.{KeepsStores}
use Rattle.hls_block_filling.proofs.Trails.{next_in, follows_on, first_in_block}
use Rattle.hls_block_filling.proofs.Dropping.{scheduled_behaves}
use Rattle.hls_block_filling.specs.ItemUnits.{Units, none_used, used_by, suffice}
use Rattle.hls_block_filling.specs.Heights.{chain_of, heights}
use Rattle.hls_block_filling.specs.Filling.{graph_of, filling_of, EachItemFits, used_by_all, placed_by}
use Rattle.hls_block_filling.proofs.Chains.{no_shorter}
use Rattle.hls_block_filling.proofs.Placings.{is_filled}
use Rattle.hls_block_filling.proofs.Lists.{same_items, placed_valid, placed_below, below_chain}
use Rattle.hls_block_filling.proofs.Tight.{length_is_chain}
use Rattle.hls_block_filling.specs.Schedules.{IsWithin, rows_by, schedule_of}

length_rows : (n k : ℕ) (ps : List Placed) → length (rows_from k n ps) ≡ n
length_rows zero k ps = refl
length_rows (suc n) k ps = ap suc (length_rows n (suc k) ps)

-- the one transition of a state of a block, and that its assignments are the item
pub its_block : (m : Fsmd) (sound : IsSound m) (q : ℕ) → q < length m.states → is_in_block m q ≡ true
    → (l : Transition ℕ ℕ) × (transitions_of m q ≡ l ∷ []) × (item_of m q ≡ l.assignments)
its_block m sound q h e =
    let c : is_cutpoint m q ≡ false = not-true (is_cutpoint m q) e in
    let a = one_element (branches_of (transitions_of m q)) (some_branch m sound q h) (few m q c) in
    let o = only_transition (transitions_of m q) a.0 (sound.open_last q h) a.1 in
    let is : (branch_at m q 0).assignments ≡ o.transition.assignments =
    ap (λ (bs : List Branch). (slice_index_or bs 0 (record { literals = []; assignments = []; target = 0 })).assignments) a.1 ∙ sym o.assignments in
    (o.transition, o.alone, is)

module _ (m : Fsmd) (units : Units) (sound : IsSound m) (within : IsWithin units m) where
  item_within : (q : ℕ) → q < length m.states → is_in_block m q ≡ true → suffice units none_used (used_by (item_of m q)) ≡ true
  item_within q h e =
      let l = its_block m sound q h e in
      subst (λ z. suffice units none_used (used_by z) ≡ true) (sym l.2) (within q 0 l.0 (ap (λ ls. slice_get ls 0) l.1))

  -- each item of a block is within the units
  each_step : (n j q : ℕ) (t : Bool) → follows m q (next_state m q) ≡ t → j < length (map (item_of m) (cond t (block_from m n (next_state m q)) []))
      → (follows m q (next_state m q) ≡ true → j < length (map (item_of m) (block_from m n (next_state m q)))
      → suffice units none_used (used_by (slice_index_or (map (item_of m) (block_from m n (next_state m q))) j [])) ≡ true)
      → suffice units none_used (used_by (slice_index_or (map (item_of m) (cond t (block_from m n (next_state m q)) [])) j [])) ≡ true
  each_step n j q true e h w = w e h
  each_step n j q false e h w = absurd (omega (arith, h))

  each_item : (n j q : ℕ) → q < length m.states → is_in_block m q ≡ true → j < length (map (item_of m) (block_from m n q))
      → suffice units none_used (used_by (slice_index_or (map (item_of m) (block_from m n q)) j [])) ≡ true
  each_item zero zero q h e i = item_within q h e
  each_item zero (suc j) q h e i = absurd (omega (arith, i))
  each_item (suc n) zero q h e i = item_within q h e
  each_item (suc n) (suc j) q h e i = each_step n j q (follows m q (next_state m q)) refl (omega (arith, i))
      (λ f k. each_item n j (next_state m q) (next_in m sound q h) (follows_on m q (next_state m q) f) k)

  pub each_fits : (q : ℕ) → q < length m.states → is_first_of_block m q ≡ true → EachItemFits (graph_of (items_at m q)) units
  each_fits q h e j i = each_item (length m.states) j q h (first_in_block m q e) i

  some_item : (n q : ℕ) → 0 < length (map (item_of m) (block_from m n q))
  some_item zero q = omega arith
  some_item (suc n) q = omega arith

  -- the number of rows
  pub rows_count : (q : ℕ) → length (rows_by units m q) ≡ (filling_of (graph_of (items_at m q)) units).count
  rows_count q = length_rows (filling_of (graph_of (items_at m q)) units).count 0 (placed_by (items_at m q) (filling_of (graph_of (items_at m q)) units))

  pub no_longer : (q : ℕ) → q < length m.states → is_first_of_block m q ≡ true → length (rows_by units m q) ≤ length (basic_block_at m q)
  no_longer q h e =
      let f = is_filled (graph_of (items_at m q)) units (each_fits q h e) in
      let l : length (items_at m q) ≡ length (basic_block_at m q) = length_map (item_of m) (basic_block_at m q) in
      omega (arith, rows_count q, f.no_more, l)

  pub at_least_chain : (q : ℕ) → q < length m.states → is_first_of_block m q ≡ true → chain_of (items_at m q) ≤ length (rows_by units m q)
  at_least_chain q h e =
      let f = filling_of (graph_of (items_at m q)) units in
      let w : chain_of (items_at m q) ≤ f.count = subst (λ z. chain_of z ≤ f.count) (same_items (items_at m q) 0 f.rows)
      (no_shorter (placed_by (items_at m q) f) f.count (placed_valid (items_at m q) units (each_fits q h e))
      (placed_below (items_at m q) units (each_fits q h e))) in
      omega (arith, w, rows_count q)

  pub chain_where_ample : (q : ℕ) → q < length m.states → is_first_of_block m q ≡ true
      → suffice units none_used (used_by_all (graph_of (items_at m q)) (length (items_at m q))) ≡ true → length (rows_by units m q) ≡ chain_of (items_at m q)
  chain_where_ample q h e a = rows_count q ∙ length_is_chain (items_at m q) units (each_fits q h e) a

  nonempty : (rows : List Item) → 0 < length rows → rows ≢ []
  nonempty [] h e = omega (arith, h)
  nonempty (a ∷ rows) h e = cc e

  pub keeps_stores : KeepsStores m (rows_by units m)
  keeps_stores = record {
    some = λ q h e. nonempty (rows_by units m q)
        (let c : slice_index_or (heights (items_at m q)) 0 0 < chain_of (items_at m q) = below_chain (items_at m q) 0 (some_item (length m.states) q) in
        omega (arith, c, at_least_chain q h e));
    no_more = λ q h e. no_longer q h e;
    stores = λ q s h e. (let f = filling_of (graph_of (items_at m q)) units in
        rows_keep_the_store (placed_by (items_at m q) f) f.count s (placed_valid (items_at m q) units (each_fits q h e))
        (placed_below (items_at m q) units (each_fits q h e))
        ∙ ap (λ z. store_after_items z s) (same_items (items_at m q) 0 f.rows));
  }

  pub behaves : SameBehaviour m (schedule_of units m)
  behaves = scheduled_behaves m (rows_by units m) sound keeps_stores
