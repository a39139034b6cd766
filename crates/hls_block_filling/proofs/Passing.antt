-- Tests that rows pass where items do.
use Rattle.std.proofs.Common.{◌≡◌, inl, inr, ℕ, zero, suc, refl, sym, ◌∙◌, ap, Bool, true, false, List, [], ◌∷◌, ◌++◌}
use Rattle.std.specs.Prelude.{◌==◌, cond, filter}
use Rattle.std.specs.List.{list_all, slice_index_or, flat_map}
use Rattle.std.proofs.lemmas.List.Folds.{list_all-append}
use Rattle.std.proofs.lemmas.Bool.{and_from}
use Rattle.fs_model.proofs.Booleans.{and_first, and_second}
use Rattle.fs_model.specs.Expressions.{Assignment}
use Rattle.hls_block_filling.specs.Placings.{PlacedOver, join_assignments, row_at}
use Rattle.hls_block_filling.specs.Filling.{Rows, Filled, placed_from, placed_by}
use Rattle.hls_block_filling.proofs.Among.{Among}

module _ {X : Type 0} (T : X → Bool) where
  pub all_both : (xs ys : List X) → list_all T xs ≡ true → list_all T ys ≡ true → list_all T (xs ++ ys) ≡ true
  all_both xs ys h i = list_all-append T xs ys ∙ and_from (list_all T xs) (list_all T ys) h i

  pub all_behind : (xs ys : List X) → list_all T (xs ++ ys) ≡ true → list_all T ys ≡ true
  all_behind xs ys h = and_second (list_all T xs) (list_all T ys) (sym (list_all-append T xs ys) ∙ h)

  pub all_flat : {Y : Type 0} (f : Y → List X) (ys : List Y) → ((y : Y) → list_all T (f y) ≡ true) → list_all T (flat_map f ys) ≡ true
  all_flat f [] h = refl
  all_flat f (y ∷ ys) h = all_both (f y) (flat_map f ys) (h y) (all_flat f ys h)

  pub at_passes : (xs : List X) (k : ℕ) (d : X) → list_all T xs ≡ true → T d ≡ true → T (slice_index_or xs k d) ≡ true
  at_passes [] k d h i = i
  at_passes (x ∷ xs) zero d h i = and_first (T x) (list_all T xs) h
  at_passes (x ∷ xs) (suc k) d h i = at_passes xs k d (and_second (T x) (list_all T xs) h) i

  kept_step : (x : X) (xs : List X) (t : Bool) → T x ≡ true → list_all T xs ≡ true → list_all T (cond t (x ∷ xs) xs) ≡ true
  kept_step x xs true h i = and_from (T x) (list_all T xs) h i
  kept_step x xs false h i = i

  kept_pass : (test : X → Bool) (xs : List X) → list_all T xs ≡ true → list_all T (filter test xs) ≡ true
  kept_pass test [] h = refl
  kept_pass test (x ∷ xs) h = kept_step x (filter test xs) (test x) (and_first (T x) (list_all T xs) h) (kept_pass test xs (and_second (T x) (list_all T xs) h))

module _ {X : Type 0} (T : List (Assignment X) → Bool) where
  -- placed items pass where all items do
  pub placed_pass : (items : List (List (Assignment X))) (k : ℕ) (rows : Rows) → ((a : List (Assignment X)) → Among a items → T a ≡ true)
      → list_all (λ p. T p.item) (placed_from k items rows) ≡ true
  placed_pass [] k rows h = refl
  placed_pass (a ∷ items) k rows h =
      and_from (T a) (list_all (λ (p : PlacedOver X). T p.item) (placed_from (suc k) items rows)) (h a (inl refl))
      (placed_pass items (suc k) rows (λ b w. h b (inr w)))

-- what is listed of assignments, those of one item before those of the next
module _ {X A : Type 0} (T : A → Bool) (listed : List (Assignment X) → List A) (none : list_all T (listed []) ≡ true)
    (both : (a b : List (Assignment X)) → listed (a ++ b) ≡ listed a ++ listed b) where
  joined_pass : (ps : List (PlacedOver X)) → list_all (λ p. list_all T (listed p.item)) ps ≡ true → list_all T (listed (join_assignments ps)) ≡ true
  joined_pass [] h = none
  joined_pass (p ∷ ps) h =
      ap (list_all T) (both p.item (join_assignments ps))
      ∙ all_both T (listed p.item) (listed (join_assignments ps))
      (and_first (list_all T (listed p.item)) (list_all (λ (q : PlacedOver X). list_all T (listed q.item)) ps) h)
      (joined_pass ps (and_second (list_all T (listed p.item)) (list_all (λ (q : PlacedOver X). list_all T (listed q.item)) ps) h))

  -- what is listed of a row passes where that of all items does
  pub row_passes : (items : List (List (Assignment X))) (g : Filled) (k : ℕ) → ((a : List (Assignment X)) → Among a items → list_all T (listed a) ≡ true)
      → list_all T (listed (join_assignments (row_at k (placed_by items g)))) ≡ true
  row_passes items g k h =
      joined_pass (row_at k (placed_by items g))
      (kept_pass (λ (p : PlacedOver X). list_all T (listed p.item)) (λ (p : PlacedOver X). p.row == k) (placed_by items g)
      (placed_pass (λ a. list_all T (listed a)) items 0 g.rows h))
