-- A filling is a list schedule, and each of its rows has an item.
use Rattle.std.proofs.Common.{◌≡◌, ℕ, zero, suc, ◌+◌, ◌<◌, ◌≤◌, refl, ◌∙◌, ap, subst, arith, Bool, true, false, Option, Some, None}
use Rattle.std.specs.Prelude.{◌≢◌, ◌==◌, not, ◌&&◌, nat_lt, cond}
use Rattle.std.specs.Option.{is_none}
use Rattle.std.proofs.lemmas.Bool.Decides.{nat_tests}
use Rattle.std.proofs.lemmas.Bool.{and_from, not-true, lt-ltb}
use Rattle.std.proofs.lemmas.Option.{same_Some}
use Rattle.fs_model.proofs.Booleans.{and_second}
use Rattle.hls_block_filling.specs.ItemUnits.{Units, none_used, suffice}
use Rattle.hls_block_filling.specs.Filling.{ItemGraph, Rows, place_item, is_before, is_by, leaves_row_open, is_ready, may_stand, higher_of, highest_number}
use Rattle.hls_block_filling.specs.Filling.{next_item, more_units}
use Rattle.hls_block_filling.specs.Filling.{row_filled, all_placed, Filled, filled_from, filling_of, EachItemFits}
use Rattle.hls_block_filling.specs.ListSchedules.{IsBefore, IsNoLater, MayStand, GoesFirst, IsListSchedule, ends, places, goes_on, HasItem}
use Rattle.hls_block_filling.proofs.Fills.{all_range, in_all, is_none_of, highest_passes, none_passes, open_below, none_open, put_open, open_all, one_less}
use Rattle.hls_block_filling.proofs.Fills.{InRow}
use Rattle.hls_block_filling.proofs.Fills.{put_other, open_differs, EndsRow, row_ends, row_begins, some_open, filling_ends}
use Rattle.hls_block_filling.proofs.Placings.{suffices, does_suffice, stands, stands_ready, Begun, Going, begins, keeps, begun_first}

-- ---- the highest of those that pass, and of these the first
record IsFirstHighest (test : ℕ → Bool) (height : ℕ → ℕ) (n k : ℕ) : Type 0 where
  no_higher : (j : ℕ) → j < n → test j ≡ true → height j ≤ height k
  first : (j : ℕ) → j < n → test j ≡ true → height j ≡ height k → k ≤ j

-- a number below n + 1 is n, or below n
last_or : (P : ℕ → Type 0) (n j : ℕ) (t : Bool) → (j == n) ≡ t → j < suc n → P n → (j < n → P j) → P j
last_or P n j true e p at next = let c : n ≡ j = grind (arith, nat_tests) in subst P c at
last_or P n j false e p at next = next (let d : j ≢ n = grind (arith, nat_tests) in omega (arith, d, p))

only_last : (test : ℕ → Bool) (height : ℕ → ℕ) (n k : ℕ) → n ≡ k → ((j : ℕ) → j < n → test j ≡ true → ⊥) → IsFirstHighest test height (suc n) k
only_last test height n k c none = subst (IsFirstHighest test height (suc n)) c (record {
  no_higher = λ j p e. last_or (λ z. test z ≡ true → height z ≤ height n) n j (j == n) refl p (λ f. (omega arith)) (λ q f. absurd (none j q f)) e;
  first = λ j p e. last_or (λ z. test z ≡ true → height z ≡ height n → n ≤ z) n j (j == n) refl p (λ f g. (omega arith)) (λ q f g. absurd (none j q f)) e;
})

last_is_higher : (test : ℕ → Bool) (height : ℕ → ℕ) (n p : ℕ) → height p < height n → IsFirstHighest test height n p → IsFirstHighest test height (suc n) n
last_is_higher test height n p h w = record {
  no_higher = λ j q e. last_or (λ z. test z ≡ true → height z ≤ height n) n j (j == n) refl q (λ f. (omega arith))
      (λ i f. (let m = w.no_higher j i f in omega (arith, m, h))) e;
  first = λ j q e. last_or (λ z. test z ≡ true → height z ≡ height n → n ≤ z) n j (j == n) refl q (λ f g. (omega arith))
      (λ i f g. (let m = w.no_higher j i f in absurd (omega (arith, m, h, g)))) e;
}

last_is_no_higher : (test : ℕ → Bool) (height : ℕ → ℕ) (n p : ℕ) → height n ≤ height p → p < n → IsFirstHighest test height n p
    → IsFirstHighest test height (suc n) p
last_is_no_higher test height n p h l w = record {
  no_higher = λ j q e. last_or (λ z. test z ≡ true → height z ≤ height p) n j (j == n) refl q (λ f. h) (λ i f. w.no_higher j i f) e;
  first = λ j q e. last_or (λ z. test z ≡ true → height z ≡ height p → p ≤ z) n j (j == n) refl q (λ f g. (omega (arith, l))) (λ i f g. w.first j i f g) e;
}

last_fails : (test : ℕ → Bool) (height : ℕ → ℕ) (n k : ℕ) → test n ≡ false → IsFirstHighest test height n k → IsFirstHighest test height (suc n) k
last_fails test height n k e w = record {
  no_higher = λ j q f. last_or (λ z. test z ≡ true → height z ≤ height k) n j (j == n) refl q (λ g. absurd (cc (e, g))) (λ i g. w.no_higher j i g) f;
  first = λ j q f. last_or (λ z. test z ≡ true → height z ≡ height k → k ≤ z) n j (j == n) refl q (λ g. absurd (cc (e, g))) (λ i g. w.first j i g) f;
}

picked : (test : ℕ → Bool) (height : ℕ → ℕ) (n p k : ℕ) (b : Bool) → nat_lt (height p) (height n) ≡ b → p < n → cond b n p ≡ k → IsFirstHighest test height n p
    → IsFirstHighest test height (suc n) k
picked test height n p k true e l f w = let h : height p < height n = grind (arith, nat_tests) in
    subst (IsFirstHighest test height (suc n)) f (last_is_higher test height n p h w)
picked test height n p k false e l f w = let h : height n ≤ height p = grind (arith, nat_tests) in
    subst (IsFirstHighest test height (suc n)) f (last_is_no_higher test height n p h l w)

highest_of : (test : ℕ → Bool) (height : ℕ → ℕ) (n k : ℕ) (o : Option ℕ) → highest_number test height n ≡ o
    → ((p : ℕ) → o ≡ Some p → IsFirstHighest test height n p)
    → higher_of height n o ≡ k → IsFirstHighest test height (suc n) k
highest_of test height n k None e w f = only_last test height n k f (λ j p g. (let h = none_passes test height n j e p in cc (h, g)))
highest_of test height n k (Some p) e w f = picked test height n p k (nat_lt (height p) (height n)) refl (highest_passes test height n p e).within f (w p refl)

first_step : (test : ℕ → Bool) (height : ℕ → ℕ) (n k : ℕ) (o : Option ℕ) (t : Bool) → highest_number test height n ≡ o → test n ≡ t
    → ((p : ℕ) → o ≡ Some p → IsFirstHighest test height n p) → cond t (Some (higher_of height n o)) o ≡ Some k → IsFirstHighest test height (suc n) k
first_step test height n k o true e g w f = highest_of test height n k o e w (same_Some (higher_of height n o) k f)
first_step test height n k o false e g w f = last_fails test height n k g (w k f)

first_highest : (test : ℕ → Bool) (height : ℕ → ℕ) (n k : ℕ) → highest_number test height n ≡ Some k → IsFirstHighest test height n k
first_highest test height zero k e = absurd (cc e)
first_highest test height (suc n) k e = first_step test height n k (highest_number test height n) (test n) refl refl (λ p f. first_highest test height n p f) e

-- ---- what may be placed, as a test and as a relation
strict_before : (rows : Rows) (i r : ℕ) (a b : Bool) (o : Option ℕ) → rows i ≡ o → a ≡ true → cond a (is_before r o) (cond b (is_by r o) true) ≡ true
    → IsBefore rows i r
strict_before rows i r true b None e f h = absurd (cc h)
strict_before rows i r true b (Some k) e f h = record { row = k; is = e; before = (let l : k < r = grind (arith, nat_tests) in l) }
strict_before rows i r false b o e f h = absurd (cc f)

weak_no_later : (rows : Rows) (i r : ℕ) (a b : Bool) (o : Option ℕ) → rows i ≡ o → b ≡ true → cond a (is_before r o) (cond b (is_by r o) true) ≡ true
    → IsNoLater rows i r
weak_no_later rows i r true b None e f h = absurd (cc h)
weak_no_later rows i r true b (Some k) e f h = record { row = k; is = e; no_later = (let l : k ≤ r = grind (arith, nat_tests) in l) }
weak_no_later rows i r false true None e f h = absurd (cc h)
weak_no_later rows i r false true (Some k) e f h = record { row = k; is = e; no_later = (let l : k ≤ r = grind (arith, nat_tests) in l) }
weak_no_later rows i r false false o e f h = absurd (cc f)

before_is : (rows : Rows) (i r : ℕ) → IsBefore rows i r → is_before r (rows i) ≡ true
before_is rows i r h = ap (is_before r) h.is ∙ lt-ltb h.row r h.before

no_later_is : (rows : Rows) (i r : ℕ) → IsNoLater rows i r → is_by r (rows i) ≡ true
no_later_is rows i r h = ap (is_by r) h.is ∙ (let l = h.no_later in let e : not (nat_lt r h.row) ≡ true = grind (arith, nat_tests) in e)

lets_by : (rows : Rows) (i r : ℕ) (a b : Bool) → (a ≡ true → IsBefore rows i r) → (b ≡ true → IsNoLater rows i r)
    → cond a (is_before r (rows i)) (cond b (is_by r (rows i)) true) ≡ true
lets_by rows i r true b s w = before_is rows i r (s refl)
lets_by rows i r false true s w = no_later_is rows i r (w refl)
lets_by rows i r false false s w = refl

is_open_by : (o : Option ℕ) → o ≡ None → is_none o ≡ true
is_open_by o e = ap is_none e

module _ (g : ItemGraph) (units : Units) where
  may_of : (rows : Rows) (r : ℕ) (used : Units) (j : ℕ) → j < g.count → may_stand g units rows r used j ≡ true → MayStand g units rows r used j
  may_of rows r used j n e = record {
    within = n;
    is_open = is_none_of (rows j) (stands g units rows r used j e);
    strict = λ i p s. strict_before rows i r (g.strict i j) (g.weak i j) (rows i) refl s (stands_ready g units rows r used j i e p);
    weak = λ i p w. weak_no_later rows i r (g.strict i j) (g.weak i j) (rows i) refl w (stands_ready g units rows r used j i e p);
    fits = suffices units used (g.uses j) (and_second (is_none (rows j) && is_ready g rows r j) (suffice units used (g.uses j)) e);
  }

  test_of : (rows : Rows) (r : ℕ) (used : Units) (j : ℕ) → MayStand g units rows r used j → may_stand g units rows r used j ≡ true
  test_of rows r used j m =
      let ready : is_ready g rows r j ≡ true = all_range (λ i. leaves_row_open g rows r i j) j 0
      (λ i p q. lets_by rows i r (g.strict i j) (g.weak i j) (λ s. m.strict i (omega (arith, q)) s) (λ w. m.weak i (omega (arith, q)) w)) in
      and_from (is_none (rows j) && is_ready g rows r j) (suffice units used (g.uses j))
      (and_from (is_none (rows j)) (is_ready g rows r j) (is_open_by (rows j) m.is_open) ready) (does_suffice units used (g.uses j) m.fits)

  goes_first : (rows : Rows) (r : ℕ) (used : Units) (k : ℕ) → next_item g units rows r used ≡ Some k → GoesFirst g units rows r used k
  goes_first rows r used k e =
      let passes = highest_passes (may_stand g units rows r used) g.height g.count k e in
      let w = first_highest (may_stand g units rows r used) g.height g.count k e in
      record {
        may = may_of rows r used k passes.within passes.is;
        no_higher = λ j m. w.no_higher j m.within (test_of rows r used j m);
        first = λ j m h. w.first j m.within (test_of rows r used j m) h;
      }

  none_may : (rows : Rows) (r : ℕ) (used : Units) → next_item g units rows r used ≡ None → (j : ℕ) → MayStand g units rows r used j → ⊥
  none_may rows r used e j m =
      let no = none_passes (may_stand g units rows r used) g.height g.count j e m.within in
      let yes = test_of rows r used j m in
      cc (no, yes)

  -- ---- a row
  row_step : (n r : ℕ) (rows : Rows) (used : Units) (f : Filled) (o : Option ℕ) → next_item g units rows r used ≡ o → open_below rows g.count ≤ suc n
      → IsListSchedule g units (suc r)
      (elim o as (λ _. Rows) [ None ↦ rows | Some k ↦ row_filled g units n r (place_item rows k r) (more_units used (g.uses k)) ]) none_used f
      → ((k : ℕ) → open_below (place_item rows k r) g.count ≤ n
      → IsListSchedule g units (suc r) (row_filled g units n r (place_item rows k r) (more_units used (g.uses k))) none_used f
      → IsListSchedule g units r (place_item rows k r) (more_units used (g.uses k)) f)
      → IsListSchedule g units r rows used f
  row_step n r rows used f None e h rest next = goes_on r rows used f (none_may rows r used e) rest
  row_step n r rows used f (Some k) e h rest next =
      let passes = highest_passes (may_stand g units rows r used) g.height g.count k e in
      let a : nat_lt k g.count ≡ true = lt-ltb k g.count passes.within in
      let c : open_below (place_item rows k r) g.count + 1 ≡ open_below rows g.count =
      one_less (nat_lt k g.count) (open_below (place_item rows k r) g.count) (open_below rows g.count) a
      (put_open rows k r g.count (stands g units rows r used k passes.is)) in
      places r k rows used f (goes_first rows r used k e) (next k (omega (arith, c, h)) rest)

  row_run : (n r : ℕ) (rows : Rows) (used : Units) (f : Filled) → open_below rows g.count ≤ n
      → IsListSchedule g units (suc r) (row_filled g units n r rows used) none_used f → IsListSchedule g units r rows used f
  row_run zero r rows used f h rest =
      let z : open_below rows g.count ≡ 0 = omega (arith, h) in
      goes_on r rows used f (λ j m. (let no = none_open rows g.count j z m.within in let yes = is_open_by (rows j) m.is_open in cc (no, yes))) rest
  row_run (suc n) r rows used f h rest = row_step n r rows used f (next_item g units rows r used) refl h rest
      (λ k p w. row_run n r (place_item rows k r) (more_units used (g.uses k)) f p w)

module _ (g : ItemGraph) (units : Units) (each : EachItemFits g units) where
  abbrev EndsAt : (r : ℕ) → Rows → Units → Rows → Type 0
  EndsAt = EndsRow g units (Begun g units) (Going g units) (begins g units) (keeps g units) (λ r rows used w stuck some. w.begun)
      (λ r rows j k b n e. b.low j k n e) each

  row_end : (r : ℕ) (rows : Rows) → Begun g units r rows → open_below rows g.count ≤ g.count
      → EndsAt r rows none_used (row_filled g units g.count r rows none_used)
  row_end r rows b h = row_ends g units (Begun g units) (Going g units) (begins g units) (keeps g units) (λ r rows used w stuck some. w.begun)
      (λ r rows j k b n e. b.low j k n e) each g.count r rows none_used (begins g units r rows b) h

  row_first : (r : ℕ) (rows : Rows) → Begun g units r rows → 0 < open_below rows g.count
      → (j : ℕ) × (j < g.count) × (may_stand g units rows r none_used j ≡ true)
  row_first r rows b h = row_begins g units (Begun g units) (Going g units) (begins g units) (keeps g units) (λ r rows used w stuck some. w.begun)
      (λ r rows j k b n e. b.low j k n e) each r rows b h

  open_left : (rows : Rows) → all_placed g rows ≡ false → 0 < open_below rows g.count
  open_left rows e = some_open g units (Begun g units) (Going g units) (begins g units) (keeps g units) (λ r rows used w stuck some. w.begun)
      (λ r rows j k b n e. b.low j k n e) each rows (open_below rows g.count) refl e

  no_open : (rows : Rows) (j : ℕ) → is_none (rows j) ≡ false → rows j ≡ None → ⊥
  no_open rows j e f = let yes = is_open_by (rows j) f in cc (e, yes)

  fill_step : (n r : ℕ) (rows : Rows) (t : Bool) → all_placed g rows ≡ t → Begun g units r rows → open_below rows g.count ≤ suc n
      → open_below rows g.count ≤ g.count
      → ((out : Rows) → Begun g units (suc r) out → open_below out g.count ≤ n → open_below out g.count ≤ g.count
      → IsListSchedule g units (suc r) out none_used (filled_from g units n (suc r) out))
      → IsListSchedule g units r rows none_used
      (cond t (record { rows = rows; count = r }) (filled_from g units n (suc r) (row_filled g units g.count r rows none_used)))
  fill_step n r rows true e b h l next =
      ends r rows (λ j p. no_open rows j (not-true (is_none (rows j)) (in_all (λ i. not (is_none (rows i))) g.count 0 j e (omega arith) (omega (arith, p)))))
  fill_step n r rows false e b h l next =
      let w = row_first r rows b (open_left rows e) in
      let d = row_end r rows b l in
      let fewer : open_below (row_filled g units g.count r rows none_used) g.count < open_below rows g.count = d.fewer w.0 w.1 w.2 in
      row_run g units g.count r rows none_used (filled_from g units n (suc r) (row_filled g units g.count r rows none_used)) l
      (next (row_filled g units g.count r rows none_used) d.holds.begun (omega (arith, fewer, h)) (omega (arith, fewer, l)))

  fill_run : (n r : ℕ) (rows : Rows) → Begun g units r rows → open_below rows g.count ≤ n → open_below rows g.count ≤ g.count
      → IsListSchedule g units r rows none_used (filled_from g units n r rows)
  fill_run zero r rows b h l =
      let z : open_below rows g.count ≡ 0 = omega (arith, h) in
      ends r rows (λ j p. no_open rows j (none_open rows g.count j z p))
  fill_run (suc n) r rows b h l = fill_step n r rows (all_placed g rows) refl b h l (λ out c p q. fill_run n (suc r) out c p q)

pub is_list_schedule : (g : ItemGraph) (units : Units) → EachItemFits g units → IsListSchedule g units 0 (λ i. None) none_used (filling_of g units)
is_list_schedule g units each = fill_run g units each g.count 0 (λ i. None) (begun_first g units) (omega (arith, open_all g.count))
    (omega (arith, open_all g.count))

-- ---- each row has an item
has_put : (g : ItemGraph) (rows : Rows) (k r q : ℕ) → is_none (rows k) ≡ true → HasItem g rows q → HasItem g (place_item rows k r) q
has_put g rows k r q o h = record { item = h.item; within = h.within; is = put_other rows k r h.item (open_differs rows k h.item q o h.is) ∙ h.is }

in_row : (g : ItemGraph) (rows : Rows) (r : ℕ) → InRow g rows r → HasItem g rows r
in_row g rows r i = record { item = i.number; within = i.within; is = i.is }

module _ (g : ItemGraph) (units : Units) where
  record BegunFull (r : ℕ) (rows : Rows) : Type 0 where
    base : Begun g units r rows
    full : (q : ℕ) → q < r → HasItem g rows q

  record GoingFull (r : ℕ) (rows : Rows) (used : Units) : Type 0 where
    base : Going g units r rows used
    full : (q : ℕ) → q < r → HasItem g rows q

  begins_full : (r : ℕ) (rows : Rows) → BegunFull r rows → GoingFull r rows none_used
  begins_full r rows b = record { base = begins g units r rows b.base; full = b.full }

  keeps_full : (r : ℕ) (rows : Rows) (used : Units) (k : ℕ) → GoingFull r rows used → k < g.count → may_stand g units rows r used k ≡ true
      → GoingFull r (place_item rows k r) (more_units used (g.uses k))
  keeps_full r rows used k w n e = record {
    base = keeps g units r rows used k w.base n e;
    full = λ q p. has_put g rows k r q (stands g units rows r used k e) (w.full q p);
  }

  turns_full : (r : ℕ) (rows : Rows) (used : Units) → GoingFull r rows used → ((j : ℕ) → j < g.count → may_stand g units rows r used j ≡ false) → InRow g rows r
      → BegunFull (suc r) rows
  turns_full r rows used w stuck some = record {
    base = w.base.begun;
    full = λ q p. last_or (HasItem g rows) r q (q == r) refl p (in_row g rows r some) (λ l. w.full q l);
  }

  first_full : BegunFull 0 (λ i. None)
  first_full = record { base = begun_first g units; full = λ q p. absurd (omega (arith, p)) }

  pub has_item : EachItemFits g units → (r : ℕ) → r < (filling_of g units).count → HasItem g (filling_of g units).rows r
  has_item each =
      (filling_ends g units BegunFull GoingFull begins_full keeps_full turns_full (λ r rows j k b n e. b.base.low j k n e) each first_full).holds.full
