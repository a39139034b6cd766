-- A row assigns no scalar twice.
use Rattle.std.proofs.Common.{◌≡◌, ℕ, List, [], ◌∷◌, ◌++◌, refl, ap, arith, Bool, true, false}
use Rattle.std.specs.Prelude.{◌==◌, not, nat_lt, cond}
use Rattle.std.specs.List.{list_all}
use Rattle.std.proofs.lemmas.Bool.Decides.{nat_tests}
use Rattle.std.proofs.lemmas.Bool.{or_from, and_from, not-true}
use Rattle.fs_model.proofs.Booleans.{and_first, and_second, neither_first, neither_second}
use Rattle.fs_model.specs.Expressions.{Assign, ArrayWrite, Emit}
use Rattle.fs_model.specs.SoundMachines.{assigned_in, all_differ, occurs}
use Rattle.hls_block_filling.specs.Items.{Item, has_common_number, is_strict, is_weak}
use Rattle.hls_block_filling.specs.Placings.{Placed, respects_edge, is_valid, join_assignments, row_at}
use Rattle.hls_block_filling.proofs.Exchange.{meet_first, meet_later}
use Rattle.hls_block_filling.proofs.IntoRows.{no_strict, meet_both}

assigned_both : (a b : Item) → assigned_in (a ++ b) ≡ assigned_in a ++ assigned_in b
assigned_both [] b = refl
assigned_both (Assign x e ∷ a) b = ap (λ z. x ∷ z) (assigned_both a b)
assigned_both (ArrayWrite x i e ∷ a) b = assigned_both a b
assigned_both (Emit x e ∷ a) b = assigned_both a b

neither_in : (x : ℕ) (xs ys : List ℕ) → occurs x xs ≡ false → occurs x ys ≡ false → occurs x (xs ++ ys) ≡ false
neither_in x [] ys p q = q
neither_in x (y ∷ xs) ys p q = or_from (y == x) (occurs x (xs ++ ys)) (neither_first _ _ p) (neither_in x xs ys (neither_second (y == x) (occurs x xs) p) q)

both_differ : (xs ys : List ℕ) → all_differ xs ≡ true → all_differ ys ≡ true → has_common_number xs ys ≡ false → all_differ (xs ++ ys) ≡ true
both_differ [] ys p q m = q
both_differ (x ∷ xs) ys p q m =
    and_from _ _ (ap not (neither_in x xs ys (not-true (occurs x xs) (and_first (not (occurs x xs)) (all_differ xs) p)) (meet_first x xs ys m)))
    (both_differ xs ys (and_second (not (occurs x xs)) (all_differ xs) p) q (meet_later x xs ys m))

same_row : (p q : Placed) (k : ℕ) → (p.row == k) ≡ true → (q.row == k) ≡ true → respects_edge p q ≡ true
    → has_common_number (assigned_in p.item) (assigned_in q.item) ≡ false
same_row p q k e f h =
    let x : nat_lt p.row q.row ≡ false = grind (arith, nat_tests) in
    neither_first _ _ (neither_second _ _ (no_strict (is_strict p.item q.item) (is_weak p.item q.item) (nat_lt p.row q.row) (nat_lt q.row p.row) h x))

apart_step : (p q : Placed) (row : List Placed) (k : ℕ) (t : Bool) → (q.row == k) ≡ t
    → ((q.row == k) ≡ true → has_common_number (assigned_in p.item) (assigned_in q.item) ≡ false)
    → has_common_number (assigned_in p.item) (assigned_in (join_assignments row)) ≡ false
    → has_common_number (assigned_in p.item) (assigned_in (join_assignments (cond t (q ∷ row) row))) ≡ false
apart_step p q row k true e h rest = rw (assigned_both q.item (join_assignments row))
    (meet_both (assigned_in p.item) (assigned_in q.item) (assigned_in (join_assignments row)) (h e) rest)
apart_step p q row k false e h rest = rest

apart_in : (p : Placed) (ps : List Placed) (k : ℕ) → (p.row == k) ≡ true → list_all (respects_edge p) ps ≡ true
    → has_common_number (assigned_in p.item) (assigned_in (join_assignments (row_at k ps))) ≡ false
apart_in p [] k t v = refl
apart_in p (q ∷ ps) k t v =
    apart_step p q (row_at k ps) k (q.row == k) refl (λ e. same_row p q k t e (and_first (respects_edge p q) (list_all (respects_edge p) ps) v))
    (apart_in p ps k t (and_second (respects_edge p q) (list_all (respects_edge p) ps) v))

once_step : (p : Placed) (row : List Placed) (k : ℕ) (t : Bool) → (p.row == k) ≡ t → all_differ (assigned_in p.item) ≡ true
    → ((p.row == k) ≡ true → has_common_number (assigned_in p.item) (assigned_in (join_assignments row)) ≡ false)
    → all_differ (assigned_in (join_assignments row)) ≡ true
    → all_differ (assigned_in (join_assignments (cond t (p ∷ row) row))) ≡ true
once_step p row k true e d h rest = rw (assigned_both p.item (join_assignments row))
    (both_differ (assigned_in p.item) (assigned_in (join_assignments row)) d rest (h e))
once_step p row k false e d h rest = rest

pub assigns_once : (ps : List Placed) (k : ℕ) → is_valid ps ≡ true → list_all (λ p. all_differ (assigned_in p.item)) ps ≡ true
    → all_differ (assigned_in (join_assignments (row_at k ps))) ≡ true
assigns_once [] k v d = refl
assigns_once (p ∷ ps) k v d =
    once_step p (row_at k ps) k (p.row == k) refl (and_first _ _ d)
    (λ t. apart_in p ps k t (and_first (list_all (respects_edge p) ps) (is_valid ps) v))
    (assigns_once ps k (and_second (list_all (respects_edge p) ps) (is_valid ps) v)
    (and_second (all_differ (assigned_in p.item)) (list_all (λ q. all_differ (assigned_in q.item)) ps) d))
