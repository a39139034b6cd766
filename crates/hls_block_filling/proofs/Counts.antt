-- The counts of those that wait.
use Rattle.std.proofs.Common.{◌≡◌, ℕ, zero, suc, ◌+◌, ◌<◌, ◌≤◌, List, refl, sym, ◌∙◌, ap, subst, arith, Bool, true, false, Option, Some, None, length}
use Rattle.std.specs.Prelude.{◌≢◌, ◌==◌, not, ◌&&◌, nat_lt, cond}
use Rattle.std.specs.Option.{is_none}
use Rattle.std.specs.List.{list_all, range_with_len, slice_index_or}
use Rattle.std.proofs.lemmas.Bool.Decides.{nat_tests}
use Rattle.std.proofs.Math.ListN.{set}
use Rattle.std.proofs.lemmas.List.{get_or-set_same, get_or-set_other}
use Rattle.std.proofs.lemmas.Bool.{false_from_ne_true}
use Rattle.fs_model.proofs.Booleans.{and_first, and_second}
use Rattle.hls_block_filling.specs.declared.profiles.Profile.{Profile}
use Rattle.hls_block_filling.specs.declared.effects.Edge.{Edge}
use Rattle.hls_block_filling.specs.declared.effects.Edge.TheVariants.{Apart, Weak, Strict}
use Rattle.hls_block_filling.specs.ItemUnits.{Units, none_used, suffice}
use Rattle.hls_block_filling.specs.Filling.{ItemGraph, Rows, place_item, is_before, is_by, leaves_row_open, is_ready, more_units, may_stand, next_item}
use Rattle.hls_block_filling.specs.Filling.{row_filled}
use Rattle.hls_block_filling.specs.Filling.{all_placed}
use Rattle.hls_block_filling.specs.Filling.{filled_from}
use Rattle.hls_block_filling.proofs.Fills.{all_range, in_all, is_none_of, highest_passes}
use Rattle.hls_block_filling.specs.Profiles.{edge_at, strict_in, weak_in, graph_in}
use Rattle.hls_block_filling.specs.WaitingItems.{rows_in, AreReady, AreWaiting, AreLow, AreReleased, waits_below, holds_back, same_edge}

-- ---- none waits where all let
count_zero : (g : ItemGraph) (rows : Rows) (r j n : ℕ) → ((i : ℕ) → i < n → leaves_row_open g rows r i j ≡ true) → waits_below g rows r j n ≡ 0
count_zero g rows r j zero h = refl
count_zero g rows r j (suc n) h = let e : leaves_row_open g rows r n j ≡ true = h n (omega arith) in
    rw e (omega (arith, count_zero g rows r j n (λ i p. h i (omega (arith, p)))))

zero_step : (g : ItemGraph) (rows : Rows) (r j n i : ℕ) (b : Bool) → leaves_row_open g rows r n j ≡ b → (t : Bool) → (i == n) ≡ t
    → waits_below g rows r j n + cond b 0 1 ≡ 0
    → i < suc n → (waits_below g rows r j n ≡ 0 → i < n → leaves_row_open g rows r i j ≡ true) → leaves_row_open g rows r i j ≡ true
zero_step g rows r j n i false f t e h p w = absurd (omega (arith, h))
zero_step g rows r j n i true f true e h p w = let c : n ≡ i = grind (arith, nat_tests) in subst (λ z. leaves_row_open g rows r z j ≡ true) c f
zero_step g rows r j n i true f false e h p w = w (omega (arith, h)) (let d : i ≢ n = grind (arith, nat_tests) in omega (arith, d, p))

zero_lets : (g : ItemGraph) (rows : Rows) (r j n i : ℕ) → waits_below g rows r j n ≡ 0 → i < n → leaves_row_open g rows r i j ≡ true
zero_lets g rows r j zero i e p = absurd (omega (arith, p))
zero_lets g rows r j (suc n) i e p = zero_step g rows r j n i (leaves_row_open g rows r n j) refl (i == n) refl e p (λ f q. zero_lets g rows r j n i f q)

ready_is : (g : ItemGraph) (rows : Rows) (r j x : ℕ) (t : Bool) → is_ready g rows r j ≡ t → x ≡ waits_below g rows r j j → (x == 0) ≡ t
ready_is g rows r j x true e f = let z : waits_below g rows r j j ≡ 0 =
    count_zero g rows r j j (λ i p. in_all (λ k. leaves_row_open g rows r k j) j 0 i e (omega arith) (omega (arith, p))) in grind (arith, nat_tests)
ready_is g rows r j zero false e f =
    absurd
    (let h : is_ready g rows r j ≡ true = all_range (λ k. leaves_row_open g rows r k j) j 0 (λ i p q. zero_lets g rows r j j i (sym f) (omega (arith, q))) in
    cc (sym e ∙ h))
ready_is g rows r j (suc x) false e f = grind (arith, nat_tests)

pub are_ready : (g : ItemGraph) (rows : Rows) (r : ℕ) (waits : List ℕ) → AreWaiting g rows r waits → AreReady g rows r waits
are_ready g rows r waits w = record { ready = λ j h. ready_is g rows r j (slice_index_or waits j 0) (is_ready g rows r j) refl (w.counted j h) }

-- ---- an item that is placed
released_one : (e : Edge) (r : ℕ)
    → ◌≡◌ {A = ℕ} (cond (cond (strict_in e) (nat_lt r r) (cond (weak_in e) (not (nat_lt r r)) true)) 0 1 + cond (same_edge e Weak) 1 0)
    (cond (cond (strict_in e) false (cond (weak_in e) false true)) 0 1)
released_one Apart r = refl
released_one Weak r = grind (arith, nat_tests)
released_one Strict r = grind (arith, nat_tests)

no_more : (x y w : ℕ) (a : Bool) → a ≡ false → x + cond a w 0 ≡ y → x ≡ y
no_more x y w true e h = absurd (cc e)
no_more x y w false e h = omega (arith, h)

put_last : (x y u v u' v' w : ℕ) (a b : Bool) → a ≡ false → b ≡ true → x + cond a w 0 ≡ y → v ≡ v' → u ≡ u' → u' + w ≡ v' → x + u + cond b w 0 ≡ y + v
put_last x y u v u' v' w a true e f h p q s = let z : x ≡ y = no_more x y w a e h in omega (arith, z, p, q, s)
put_last x y u v u' v' w a false e f h p q s = absurd (cc f)

put_mid : (x y u w : ℕ) (a b : Bool) → b ≡ a → x + cond a w 0 ≡ y → x + u + cond b w 0 ≡ y + u
put_mid x y u w true b e h = rw e (omega (arith, h))
put_mid x y u w false b e h = rw e (omega (arith, h))

module _ (table : List Profile) (rows : Rows) (k r j : ℕ) (free : is_none (rows k) ≡ true) where
  abbrev G : ItemGraph
  G = graph_in table

  abbrev E : Edge
  E = edge_at table k j

  put_step : (n : ℕ) (t : Bool) → (n == k) ≡ t → waits_below (graph_in table) (place_item rows k r) r j n + cond (nat_lt k n) (cond (same_edge E Weak) 1 0) 0
      ≡ waits_below (graph_in table) rows r j n
      → waits_below (graph_in table) (place_item rows k r) r j n
      + cond (cond (G.strict n j) (is_before r (cond t (Some r) (rows n))) (cond (G.weak n j) (is_by r (cond t (Some r) (rows n))) true)) 0 1
      + cond (nat_lt k (suc n)) (cond (same_edge E Weak) 1 0) 0
      ≡ waits_below (graph_in table) rows r j n + cond (leaves_row_open (graph_in table) rows r n j) 0 1
  put_step n true e h =
      let c : k ≡ n = grind (arith, nat_tests) in
      let a : nat_lt k n ≡ false = grind (arith, nat_tests) in
      let b : nat_lt k (suc n) ≡ true = grind (arith, nat_tests) in
      let here : ◌≡◌ {A = ℕ} (cond (leaves_row_open (graph_in table) rows r n j) 0 1) (cond (cond (strict_in E) false (cond (weak_in E) false true)) 0 1) =
      subst (λ z. ◌≡◌ {A = ℕ} (cond (leaves_row_open (graph_in table) rows r z j) 0 1) (cond (cond (strict_in E) false (cond (weak_in E) false true)) 0 1)) c
      (ap (λ (o : Option ℕ). cond {A = ℕ} (cond (strict_in E) (is_before r o) (cond (weak_in E) (is_by r o) true)) 0 1) (is_none_of (rows k) free)) in
      let there : ◌≡◌ {A = ℕ} (cond (cond (G.strict n j) (nat_lt r r) (cond (G.weak n j) (not (nat_lt r r)) true)) 0 1)
      (cond (cond (strict_in E) (nat_lt r r) (cond (weak_in E) (not (nat_lt r r)) true)) 0 1) =
      ap (λ z. cond {A = ℕ} (cond (G.strict z j) (nat_lt r r) (cond (G.weak z j) (not (nat_lt r r)) true)) 0 1) (sym c) in
      put_last _ _ _ _ _ _ (cond {A = ℕ} (same_edge E Weak) 1 0) (nat_lt k n) (nat_lt k (suc n)) a b h here there (released_one E r)
  put_step n false e h =
      let a : nat_lt k (suc n) ≡ nat_lt k n = grind (arith, nat_tests) in
      put_mid _ _ _ (cond {A = ℕ} (same_edge E Weak) 1 0) (nat_lt k n) (nat_lt k (suc n)) a h

  put_waits : (n : ℕ) → waits_below (graph_in table) (place_item rows k r) r j n + cond (nat_lt k n) (cond (same_edge E Weak) 1 0) 0
      ≡ waits_below (graph_in table) rows r j n
  put_waits zero = let f : nat_lt k 0 ≡ false = grind (arith, nat_tests) in rw f (omega arith)
  put_waits (suc n) = put_step n (n == k) refl (put_waits n)

pub released_by : (a b : Bool) → ◌≡◌ {A = ℕ} (cond (a && b) 1 0) (cond a (cond b 1 0) 0)
released_by true b = refl
released_by false b = refl

pub still_waiting : (table : List Profile) (rows : Rows) (k r : ℕ) (old new : List ℕ) → is_none (rows k) ≡ true → length old ≡ length table
    → AreWaiting (graph_in table) rows r old → AreReleased table Weak k old new → AreWaiting (graph_in table) (place_item rows k r) r new
still_waiting table rows k r old new free l w d = record {
  counted = λ j h. (
      let x = d.waits j (omega (arith, h, l)) in
      let y = put_waits table rows k r j free j in
      let z = w.counted j h in
      let b = released_by (nat_lt k j) (same_edge (edge_at table k j) Weak) in
      omega (arith, x, y, z, b));
}

-- those that are held by an item that is not placed wait for one at least
pub some_wait : (table : List Profile) (rows : Rows) (k r j : ℕ) (old : List ℕ) → is_none (rows k) ≡ true → AreWaiting (graph_in table) rows r old
    → j < length table → holds_back table Weak k j ≡ true → 1 ≤ slice_index_or old j 0
some_wait table rows k r j old free w h e =
    let y = put_waits table rows k r j free j in
    let z = w.counted j h in
    let b : ◌≡◌ {A = ℕ} (cond (nat_lt k j) (cond (same_edge (edge_at table k j) Weak) 1 0) 0) 1 =
    sym (released_by (nat_lt k j) (same_edge (edge_at table k j) Weak)) ∙ ap (λ t. cond {A = ℕ} t 1 0) e in
    omega (arith, y, z, b)

-- those that are looked at one after another
released_step : (table : List Profile) (kind : Edge) (k j i : ℕ) (old mid new : List ℕ) (t : Bool) → (i == j) ≡ t
    → ((x : ℕ) → x < j → x < length table → slice_index_or mid x 0 + cond (holds_back table kind k x) 1 0 ≡ slice_index_or old x 0)
    → ((x : ℕ) → j ≤ x → x < length table → slice_index_or mid x 0 ≡ slice_index_or old x 0)
    → slice_index_or new j 0 + cond (holds_back table kind k j) 1 0 ≡ slice_index_or mid j 0
    → ((x : ℕ) → x ≢ j → slice_index_or new x 0 ≡ slice_index_or mid x 0)
    → i < j + 1 → i < length table → slice_index_or new i 0 + cond (holds_back table kind k i) 1 0 ≡ slice_index_or old i 0
released_step table kind k j i old mid new true e below above here others p q =
    let c : j ≡ i = grind (arith, nat_tests) in
    subst (λ (z : ℕ). slice_index_or new z 0 + cond (holds_back table kind k z) 1 0 ≡ slice_index_or old z 0) c
    (here ∙ above j (omega arith) (omega (arith, c, q)))
released_step table kind k j i old mid new false e below above here others p q =
    let d : i ≢ j = grind (arith, nat_tests) in
    ap (λ (z : ℕ). z + cond (holds_back table kind k i) 1 0) (others i d) ∙ below i (omega (arith, d, p)) q

pub released_next : (table : List Profile) (kind : Edge) (k j : ℕ) (old mid new : List ℕ)
    → ((x : ℕ) → x < j → x < length table → slice_index_or mid x 0 + cond (holds_back table kind k x) 1 0 ≡ slice_index_or old x 0)
    → ((x : ℕ) → j ≤ x → x < length table → slice_index_or mid x 0 ≡ slice_index_or old x 0)
    → slice_index_or new j 0 + cond (holds_back table kind k j) 1 0 ≡ slice_index_or mid j 0
    → ((x : ℕ) → x ≢ j → slice_index_or new x 0 ≡ slice_index_or mid x 0)
    → (i : ℕ) → i < j + 1 → i < length table → slice_index_or new i 0 + cond (holds_back table kind k i) 1 0 ≡ slice_index_or old i 0
released_next table kind k j old mid new below above here others i p q = released_step table kind k j i old mid new (i == j) refl below above here others p q

pub released_later : (j n : ℕ) (old mid new : List ℕ) → ((x : ℕ) → j ≤ x → x < n → slice_index_or mid x 0 ≡ slice_index_or old x 0)
    → ((x : ℕ) → x ≢ j → slice_index_or new x 0 ≡ slice_index_or mid x 0)
    → (i : ℕ) → j + 1 ≤ i → i < n → slice_index_or new i 0 ≡ slice_index_or old i 0
released_later j n old mid new above others i p q = others i (let l : j < i = omega (arith, p) in omega (arith, l)) ∙ above i (omega (arith, p)) q

-- ---- rows as a function
rows_step : (rows : List (Option ℕ)) (k r i : ℕ) (t : Bool) → (i == k) ≡ t → k < length rows
    → slice_index_or (set rows k (Some r)) i None ≡ cond t (Some r) (slice_index_or rows i None)
rows_step rows k r i true e h = let c : i ≡ k = grind (arith, nat_tests) in
    ap (λ z. slice_index_or (set rows k (Some r)) z None) c ∙ get_or-set_same rows k (Some r) None h
rows_step rows k r i false e h = get_or-set_other rows k i (Some r) None (let c : i ≢ k = grind (arith, nat_tests) in c)

pub rows_put : (rows : List (Option ℕ)) (k r : ℕ) → k < length rows → rows_in (set rows k (Some r)) ≡ place_item (rows_in rows) k r
rows_put rows k r h = λ j i. rows_step rows k r i (i == k) refl h j

-- ---- one item
stops : (g : ItemGraph) (units : Units) (n r : ℕ) (rows : Rows) (used : Units) (o : Option ℕ) → o ≡ None
    → elim o as (λ _. Rows) [ None ↦ rows | Some k ↦ row_filled g units n r (place_item rows k r) (more_units used (g.uses k)) ] ≡ rows
stops g units n r rows used None e = refl
stops g units n r rows used (Some k) e = absurd (cc e)

goes : (g : ItemGraph) (units : Units) (n r : ℕ) (rows : Rows) (used : Units) (k : ℕ) (o : Option ℕ) → o ≡ Some k
    → elim o as (λ _. Rows) [
      | None ↦ rows
      | Some k ↦ row_filled g units n r (place_item rows k r) (more_units used (g.uses k))
    ] ≡ row_filled g units n r (place_item rows k r) (more_units used (g.uses k))
goes g units n r rows used k None e = absurd (cc e)
goes g units n r rows used k (Some i) e = let c : i ≡ k = cc e in ap (λ z. row_filled g units n r (place_item rows z r) (more_units used (g.uses z))) c

pub row_stops : (g : ItemGraph) (units : Units) (n r : ℕ) (rows : Rows) (used : Units) → None ≡ next_item g units rows r used
    → row_filled g units (suc n) r rows used ≡ rows
row_stops g units n r rows used e = stops g units n r rows used (next_item g units rows r used) (sym e)

pub row_goes : (g : ItemGraph) (units : Units) (n r : ℕ) (rows new : Rows) (used after : Units) (k : ℕ) → Some k ≡ next_item g units rows r used
    → new ≡ place_item rows k r → after ≡ more_units used (g.uses k) → row_filled g units (suc n) r rows used ≡ row_filled g units n r new after
row_goes g units n r rows new used after k e f h = goes g units n r rows used k (next_item g units rows r used) (sym e)
    ∙ sym (ap (λ z. row_filled g units n r z after) f ∙ ap (row_filled g units n r (place_item rows k r)) h)

-- what comes next
pub item_stands : (g : ItemGraph) (units : Units) (rows : Rows) (r : ℕ) (used : Units) (k : ℕ) → Some k ≡ next_item g units rows r used
    → may_stand g units rows r used k ≡ true
item_stands g units rows r used k e = (highest_passes (may_stand g units rows r used) g.height g.count k (sym e)).is

pub item_free : (g : ItemGraph) (units : Units) (rows : Rows) (r : ℕ) (used : Units) (k : ℕ) → Some k ≡ next_item g units rows r used → rows k ≡ None
item_free g units rows r used k e = is_none_of (rows k) (and_first _ _ (and_first _ _ (item_stands g units rows r used k e)))

pub item_fits : (g : ItemGraph) (units : Units) (rows : Rows) (r : ℕ) (used : Units) (k : ℕ) → Some k ≡ next_item g units rows r used
    → suffice units used (g.uses k) ≡ true
item_fits g units rows r used k e = and_second (is_none (rows k) && is_ready g rows r k) (suffice units used (g.uses k)) (item_stands g units rows r used k e)

-- ---- rows stay low
low_step : (rows : Rows) (k r j l : ℕ) (t : Bool) → cond t (Some r) (rows j) ≡ Some l → (rows j ≡ Some l → l ≤ r) → l ≤ r
low_step rows k r j l true e h = let c : r ≡ l = cc e in omega (arith, c)
low_step rows k r j l false e h = h e

pub low_put : (g : ItemGraph) (rows new : Rows) (k r : ℕ) → new ≡ place_item rows k r → AreLow g rows r → AreLow g new r
low_put g rows new k r e w = subst (λ (z : Rows). AreLow g z r) (sym e) (record { low = λ j l h f. low_step rows k r j l (j == k) f (λ d. w.low j l h d) })

-- ---- whether all are placed

pub not_all : (rows : Rows) (n i : ℕ) → i < n → is_none (rows i) ≡ true → false ≡ list_all (λ k. not (is_none (rows k))) (range_with_len 0 n)
not_all rows n i h e =
    sym
    (false_from_ne_true (list_all (λ k. not (is_none (rows k))) (range_with_len 0 n))
    (λ f. (let g : not (is_none (rows i)) ≡ true = in_all (λ k. not (is_none (rows k))) n 0 i f (omega arith) (omega (arith, h)) in
    let d : not (is_none (rows i)) ≡ false = ap not e in cc (sym d ∙ g))))

pub are_all : (rows : Rows) (n : ℕ) → ((j : ℕ) → j < n → is_none (rows j) ≡ false) → true ≡ list_all (λ k. not (is_none (rows k))) (range_with_len 0 n)
are_all rows n h = sym (all_range (λ k. not (is_none (rows k))) n 0 (λ j p q. ap not (h j (omega (arith, q)))))

-- ---- one row
next_by : (g : ItemGraph) (units : Units) (n r : ℕ) (rows : Rows) (t : Bool) → all_placed g rows ≡ t
    → filled_from g units (suc n) r rows ≡ cond t (record { rows = rows; count = r })
    (filled_from g units n (suc r) (row_filled g units g.count r rows none_used))
next_by g units n r rows t e =
    ap (λ b. cond b (record { rows = rows; count = r }) (filled_from g units n (suc r) (row_filled g units g.count r rows none_used))) e

pub next_row : (g : ItemGraph) (units : Units) (n r : ℕ) (rows new : Rows) → all_placed g rows ≡ false → new ≡ row_filled g units g.count r rows none_used
    → filled_from g units (suc n) r rows ≡ filled_from g units n (suc r) new
next_row g units n r rows new e f = next_by g units n r rows false e ∙ ap (filled_from g units n (suc r)) (sym f)

pub no_row : (g : ItemGraph) (units : Units) (n r : ℕ) (rows : Rows) → all_placed g rows ≡ true
    → filled_from g units (suc n) r rows ≡ record { rows = rows; count = r }
no_row g units n r rows e = next_by g units n r rows true e

pub first_low : (g : ItemGraph) (rows : Rows) → rows ≡ (λ i. None) → AreLow g rows 0
first_low g rows e = record { low = λ j k h f. absurd (let d : rows j ≡ None = ap (λ (z : Rows). z j) e in cc (sym d ∙ f)) }

pub low_more : (g : ItemGraph) (rows : Rows) (r : ℕ) → AreLow g rows r → AreLow g rows (r + 1)
low_more g rows r w = record { low = λ j k h f. (let i : k ≤ r = w.low j k h f in omega (arith, i)) }
