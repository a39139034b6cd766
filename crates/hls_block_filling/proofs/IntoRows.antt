-- Items are moved into rows by exchanging neighbours.
use Rattle.std.proofs.Common.{◌≡◌, ℕ, zero, suc, List, [], ◌∷◌, ◌++◌, refl, sym, ◌∙◌, subst, ap, arith, Bool, true, false, append_assoc}
use Rattle.std.specs.Prelude.{◌==◌, not, nat_lt, ◌+◌, cond, filter}
use Rattle.std.specs.List.{list_all}
use Rattle.std.proofs.lemmas.Bool.Decides.{nat_tests}
use Rattle.std.proofs.lemmas.Bool.{or_from}
use Rattle.fs_model.proofs.Booleans.{and_first, and_second, neither_first, neither_second}
use Rattle.fs_model.specs.Stores.{Store}
use Rattle.fs_model.specs.Meaning.{act, act_all}
use Rattle.fs_model.specs.SoundMachines.{occurs}
use Rattle.hls_block_filling.specs.Items.{Item, store_after_items, variables_read_by, reads_of_item, changes, has_common_number, is_strict, is_weak}
use Rattle.hls_block_filling.specs.Placings.{Placed, items_of, respects_edge, is_valid, all_below, join_assignments, row_at, rows_from, rows_of}
use Rattle.hls_block_filling.proofs.Exchange.{Unbound, exchange, same_acts, agree_after}

-- no item of the list has an edge from the one before
abbrev pub AllUnbound : Item → List Placed → Type 0
AllUnbound a [] = Unit {0}
AllUnbound a (q ∷ qs) = Unbound a q.item × AllUnbound a qs

-- an item goes past items to which it has no edge
goes_past : (a : Item) (qs : List Placed) (s : Store) → AllUnbound a qs
    → store_after_items (items_of qs) (act_all a s s) ≡ act_all a (store_after_items (items_of qs) s) (store_after_items (items_of qs) s)
goes_past a [] s h = refl
goes_past a (q ∷ qs) s h = ap (store_after_items (items_of qs)) (exchange a q.item s h.0) ∙ goes_past a qs (act_all q.item s s) h.1

-- a test that leaves no edge where the second lies in an earlier row
pub no_strict : (a b x y : Bool) → cond a x (cond b (not y) true) ≡ true → x ≡ false → a ≡ false
no_strict a b x y h e = grind arith

no_weak : (a b x y : Bool) → cond a x (cond b (not y) true) ≡ true → x ≡ false → y ≡ true → b ≡ false
no_weak a b x y h e f = grind arith

earlier : (p q : Placed) (k : ℕ) → nat_lt p.row k ≡ false → (p.row == k) ≡ false → (q.row == k) ≡ true → respects_edge p q ≡ true → Unbound p.item q.item
earlier p q k l t e h =
    let x : nat_lt p.row q.row ≡ false = grind (arith, nat_tests) in
    let y : nat_lt q.row p.row ≡ true = grind (arith, nat_tests) in
    record {
      strict = no_strict (is_strict p.item q.item) (is_weak p.item q.item) (nat_lt p.row q.row) (nat_lt q.row p.row) h x;
      weak = no_weak (is_strict p.item q.item) (is_weak p.item q.item) (nat_lt p.row q.row) (nat_lt q.row p.row) h x y;
    }

unbound_step : (p q : Placed) (qs : List Placed) (k : ℕ) (t : Bool) → (q.row == k) ≡ t → ((q.row == k) ≡ true → Unbound p.item q.item) → AllUnbound p.item qs
    → AllUnbound p.item (cond t (q ∷ qs) qs)
unbound_step p q qs k true e h rest = (h e, rest)
unbound_step p q qs k false e h rest = rest

unbound_in : (p : Placed) (qs : List Placed) (k : ℕ) → nat_lt p.row k ≡ false → (p.row == k) ≡ false → list_all (respects_edge p) qs ≡ true
    → AllUnbound p.item (row_at k qs)
unbound_in p [] k l t v = tt
unbound_in p (q ∷ qs) k l t v =
    unbound_step p q (row_at k qs) k (q.row == k) refl (λ e. earlier p q k l t e (and_first (respects_edge p q) (list_all (respects_edge p) qs) v))
    (unbound_in p qs k l t (and_second (respects_edge p q) (list_all (respects_edge p) qs) v))

-- the items of row k and later ones
abbrev pub from : ℕ → List Placed → List Placed
from k ps = filter (λ p. not (nat_lt p.row k)) ps

split_step : (p : Placed) (here after row : List Placed) (k : ℕ) (s : Store) (l m t : Bool)
    → nat_lt p.row k ≡ l → nat_lt p.row (suc k) ≡ m → (p.row == k) ≡ t
    → (nat_lt p.row k ≡ false → (p.row == k) ≡ false → AllUnbound p.item row)
    → ((u : Store) → store_after_items (items_of here) u ≡ store_after_items (items_of after) (store_after_items (items_of row) u))
    → store_after_items (items_of (cond (not l) (p ∷ here) here)) s ≡ store_after_items (items_of (cond (not m) (p ∷ after) after))
    (store_after_items (items_of (cond t (p ∷ row) row)) s)
split_step p here after row k s true true false a b c un ih = ih s
split_step p here after row k s true true true a b c un ih = absurd (grind (arith, nat_tests))
split_step p here after row k s true false t a b c un ih = absurd (grind (arith, nat_tests))
split_step p here after row k s false true true a b c un ih = ih (act_all p.item s s)
split_step p here after row k s false false false a b c un ih = ih (act_all p.item s s)
    ∙ ap (store_after_items (items_of after)) (goes_past p.item row s (un a c))
split_step p here after row k s false false true a b c un ih = absurd (grind (arith, nat_tests))
split_step p here after row k s false true false a b c un ih = absurd (grind (arith, nat_tests))

-- the items of row k may be done first
split : (ps : List Placed) (k : ℕ) (s : Store) → is_valid ps ≡ true
    → store_after_items (items_of (from k ps)) s ≡ store_after_items (items_of (from (suc k) ps)) (store_after_items (items_of (row_at k ps)) s)
split [] k s v = refl
split (p ∷ ps) k s v =
    split_step p (from k ps) (from (suc k) ps) (row_at k ps) k s (nat_lt p.row k) (nat_lt p.row (suc k)) (p.row == k) refl refl refl
    (λ l t. unbound_in p ps k l t (and_first (list_all (respects_edge p) ps) (is_valid ps) v))
    (λ u. split ps k u (and_second (list_all (respects_edge p) ps) (is_valid ps) v))

-- ---- a row is done at once
in_turn : (a b : Item) (s t : Store) → act_all (a ++ b) s t ≡ act_all b s (act_all a s t)
in_turn [] b s t = refl
in_turn (x ∷ a) b s t = in_turn a b s (act x s t)

reads_both : (a b : Item) → reads_of_item (a ++ b) ≡ reads_of_item a ++ reads_of_item b
reads_both [] b = refl
reads_both (x ∷ a) b = ap (λ z. variables_read_by x ++ z) (reads_both a b) ∙ sym (append_assoc (variables_read_by x) (reads_of_item a) (reads_of_item b))

pub meet_both : (xs ys zs : List ℕ) → has_common_number xs ys ≡ false → has_common_number xs zs ≡ false → has_common_number xs (ys ++ zs) ≡ false
meet_both xs [] zs p q = q
meet_both xs (y ∷ ys) zs p q = or_from (occurs y xs) (has_common_number xs (ys ++ zs)) (neither_first _ _ p)
    (meet_both xs ys zs (neither_second (occurs y xs) (has_common_number xs ys) p) q)

same_row :
    (p q : Placed) (k : ℕ) → (p.row == k) ≡ true → (q.row == k) ≡ true → respects_edge p q ≡ true
    → has_common_number (changes p.item) (reads_of_item q.item) ≡ false
same_row p q k e f h =
    let x : nat_lt p.row q.row ≡ false = grind (arith, nat_tests) in
    neither_first _ _ (no_strict (is_strict p.item q.item) (is_weak p.item q.item) (nat_lt p.row q.row) (nat_lt q.row p.row) h x)

unread_step :
    (p q : Placed) (qs : List Placed) (k : ℕ) (t : Bool) → (q.row == k) ≡ t
    → ((q.row == k) ≡ true → has_common_number (changes p.item) (reads_of_item q.item) ≡ false)
    → has_common_number (changes p.item) (reads_of_item (join_assignments qs)) ≡ false
    → has_common_number (changes p.item) (reads_of_item (join_assignments (cond t (q ∷ qs) qs))) ≡ false
unread_step p q qs k true e h rest = rw (reads_both q.item (join_assignments qs))
    (meet_both (changes p.item) (reads_of_item q.item) (reads_of_item (join_assignments qs)) (h e) rest)
unread_step p q qs k false e h rest = rest

unread_in :
    (p : Placed) (qs : List Placed) (k : ℕ) → (p.row == k) ≡ true → list_all (respects_edge p) qs ≡ true
    → has_common_number (changes p.item) (reads_of_item (join_assignments (row_at k qs))) ≡ false
unread_in p [] k t v = refl
unread_in p (q ∷ qs) k t v =
    unread_step p q (row_at k qs) k (q.row == k) refl (λ e. same_row p q k t e (and_first (respects_edge p q) (list_all (respects_edge p) qs) v))
    (unread_in p qs k t (and_second (respects_edge p q) (list_all (respects_edge p) qs) v))

once_step : (p : Placed) (row : List Placed) (k : ℕ) (s : Store) (t : Bool) → (p.row == k) ≡ t
    → ((p.row == k) ≡ true → has_common_number (changes p.item) (reads_of_item (join_assignments row)) ≡ false)
    → ((u : Store) → act_all (join_assignments row) u u ≡ store_after_items (items_of row) u)
    → act_all (join_assignments (cond t (p ∷ row) row)) s s ≡ store_after_items (items_of (cond t (p ∷ row) row)) s
once_step p row k s true e h ih =
    in_turn p.item (join_assignments row) s s
    ∙ same_acts (join_assignments row) s (act_all p.item s s) (act_all p.item s s) (agree_after p.item (reads_of_item (join_assignments row)) s (h e))
    ∙ ih (act_all p.item s s)
once_step p row k s false e h ih = ih s

-- a row done at once is its items done one after another
at_once : (ps : List Placed) (k : ℕ) (s : Store) → is_valid ps ≡ true
    → act_all (join_assignments (row_at k ps)) s s ≡ store_after_items (items_of (row_at k ps)) s
at_once [] k s v = refl
at_once (p ∷ ps) k s v =
    once_step p (row_at k ps) k s (p.row == k) refl
    (λ t. unread_in p ps k t (and_first (list_all (respects_edge p) ps) (is_valid ps) v))
    (λ u. at_once ps k u (and_second (list_all (respects_edge p) ps) (is_valid ps) v))

-- ---- all rows
none_step : (p : Placed) (ps : List Placed) (k : ℕ) (l : Bool) → l ≡ true → ps ≡ [] → cond (not l) (p ∷ ps) ps ≡ []
none_step p ps k true e h = h
none_step p ps k false e h = absurd (cc)

none_from : (ps : List Placed) (k : ℕ) → all_below k ps ≡ true → from k ps ≡ []
none_from [] k h = refl
none_from (p ∷ ps) k h = none_step p (from k ps) k (nat_lt p.row k) (and_first (nat_lt p.row k) (all_below k ps) h)
    (none_from ps k (and_second (nat_lt p.row k) (all_below k ps) h))

from_zero : (ps : List Placed) → from 0 ps ≡ ps
from_zero [] = refl
from_zero (p ∷ ps) = let e : nat_lt p.row 0 ≡ false = grind (arith, nat_tests) in rw e (ap (λ z. p ∷ z) (from_zero ps))

rows_keep : (n k : ℕ) (ps : List Placed) (s : Store) → is_valid ps ≡ true → all_below (k + n) ps ≡ true
    → store_after_items (rows_from k n ps) s ≡ store_after_items (items_of (from k ps)) s
rows_keep zero k ps s v h = ap (λ z. store_after_items (items_of z) s)
    (sym (none_from ps k (subst (λ z. all_below z ps ≡ true) (let e : k + 0 ≡ k = omega arith in e) h)))
rows_keep (suc n) k ps s v h =
    rows_keep n (suc k) ps (act_all (join_assignments (row_at k ps)) s s) v
    (subst (λ z. all_below z ps ≡ true) (let e : k + suc n ≡ suc k + n = omega arith in e) h)
    ∙ ap (store_after_items (items_of (from (suc k) ps))) (at_once ps k s v)
    ∙ sym (split ps k s v)

pub rows_keep_the_store : (ps : List Placed) (n : ℕ) (s : Store) → is_valid ps ≡ true → all_below n ps ≡ true
    → store_after_items (rows_of n ps) s ≡ store_after_items (items_of ps) s
rows_keep_the_store ps n s v h =
    rows_keep n 0 ps s v (subst (λ z. all_below z ps ≡ true) (let e : n ≡ 0 + n = omega arith in e) h)
    ∙ ap (λ z. store_after_items (items_of z) s) (from_zero ps)
