-- A filling is a valid placing within the units.
use Rattle.std.proofs.Common.{◌≡◌, ℕ, zero, suc, ◌+◌, ◌<◌, ◌≤◌, refl, sym, ◌∙◌, ap, subst, arith, Bool, true, false, Option, Some, None}
use Rattle.std.specs.Prelude.{◌≢◌, ◌==◌, not, ◌&&◌, nat_lt, cond}
use Rattle.std.specs.Option.{is_none}
use Rattle.std.proofs.lemmas.Bool.Decides.{nat_tests}
use Rattle.std.proofs.lemmas.Bool.{lt-ltb}
use Rattle.std.proofs.lemmas.Option.{same_Some}
use Rattle.fs_model.proofs.Booleans.{and_first, and_second}
use Rattle.fs_model.proofs.Numbers.{eqb_self}
use Rattle.hls_unit_counts.specs.declared.units.Unit.{Unit as Kind}
use Rattle.hls_unit_counts.specs.declared.units.Unit.TheVariants.{Add, Mul, Div, Mem}
use Rattle.hls_block_filling.specs.ItemUnits.{Units, none_used, suffice}
use Rattle.hls_block_filling.specs.Filling.{ItemGraph, Rows, place_item, is_before, is_by, is_in, leaves_row_open, is_ready, may_stand, more_units, filling_of}
use Rattle.hls_block_filling.specs.Filling.{used_below, used_in}
use Rattle.hls_block_filling.specs.Filling.{used_by_all, EachItemFits, IsFilled}
use Rattle.hls_block_filling.proofs.Fills.{in_all, is_none_of, put_other, Ends, filling_ends}

-- ---- units
enough : (u x m : ℕ) → not (nat_lt u (x + m)) ≡ true → x + m ≤ u
enough u x m e = grind (arith, nat_tests)

is_enough : (u x m : ℕ) → x + m ≤ u → not (nat_lt u (x + m)) ≡ true
is_enough u x m e = grind (arith, nat_tests)

four : (a b c d : Bool) → a ≡ true → b ≡ true → c ≡ true → d ≡ true → (a && b && c && d) ≡ true
four a b c d p q r s = grind arith

pub suffices : (units used uses : Units) → suffice units used uses ≡ true → (k : Kind) → used k + uses k ≤ units k
suffices units used uses e Add = enough (units Add) (used Add) (uses Add) (and_first _ _ (and_first _ _ (and_first _ _ e)))
suffices units used uses e Mul = enough (units Mul) (used Mul) (uses Mul) (and_second _ _ (and_first _ _ (and_first _ _ e)))
suffices units used uses e Div = enough (units Div) (used Div) (uses Div) (and_second _ _ (and_first _ _ e))
suffices units used uses e Mem = enough (units Mem) (used Mem) (uses Mem) (and_second _ _ e)

pub does_suffice : (units used uses : Units) → ((k : Kind) → used k + uses k ≤ units k) → suffice units used uses ≡ true
does_suffice units used uses h = four _ _ _ _ (is_enough (units Add) (used Add) (uses Add) (h Add)) (is_enough (units Mul) (used Mul) (uses Mul) (h Mul))
    (is_enough (units Div) (used Div) (uses Div) (h Div)) (is_enough (units Mem) (used Mem) (uses Mem) (h Mem))

last_used : (x y u v : ℕ) (a b c d : Bool) → x ≡ y + cond a (cond d v 0) 0 → a ≡ false → b ≡ true → c ≡ false → u ≡ v
    → x + cond d u 0 ≡ y + cond c u 0 + cond b (cond d v 0) 0
last_used x y u v true b c d h p q r e = absurd (cc p)
last_used x y u v false b c true h p q r e = rw q (rw r (omega (arith, h, e)))
last_used x y u v false b c false h p q r e = rw q (rw r (omega (arith, h, e)))

mid_used : (x y z w : ℕ) (a b : Bool) → x ≡ y + cond a w 0 → b ≡ a → x + z ≡ y + z + cond b w 0
mid_used x y z w true b h e = rw e (omega (arith, h))
mid_used x y z w false b h e = rw e (omega (arith, h))

last_open : (x y u v : ℕ) (a b c : Bool) → x + cond a v 0 ≤ y → a ≡ false → b ≡ true → c ≡ false → u ≡ v → x + cond c u 0 + cond b v 0 ≤ y + u
last_open x y u v true b c h p q r e = absurd (cc p)
last_open x y u v false b c h p q r e = rw q (rw r (omega (arith, h, e)))

mid_open : (x y u v : ℕ) (a b c : Bool) → x + cond a v 0 ≤ y → b ≡ a → x + cond c u 0 + cond b v 0 ≤ y + u
mid_open x y u v true b true h e = rw e (omega (arith, h))
mid_open x y u v true b false h e = rw e (omega (arith, h))
mid_open x y u v false b true h e = rw e (omega (arith, h))
mid_open x y u v false b false h e = rw e (omega (arith, h))

more_used_within : (x y u v : ℕ) (a : Bool) → a ≡ true → x ≡ y + cond a v 0 → y + v ≤ u → x ≤ u
more_used_within x y u v true e h i = omega (arith, h, i)
more_used_within x y u v false e h i = absurd (cc e)

no_more_used : (x y u : ℕ) (a : Bool) → x ≡ y + cond a 0 0 → y ≤ u → x ≤ u
no_more_used x y u true h i = omega (arith, h, i)
no_more_used x y u false h i = omega (arith, h, i)

now_used : (x y v u : ℕ) (a b : Bool) → a ≡ true → b ≡ true → x ≡ y + cond a (cond b v 0) 0 → y ≡ u → x ≡ u + v
now_used x y v u true true e f h i = omega (arith, h, i)
now_used x y v u true false e f h i = absurd (cc f)
now_used x y v u false b e f h i = absurd (cc e)

module _ (g : ItemGraph) where
  used_step : (rows : Rows) (k r q n : ℕ) (x : Kind) (t : Bool) → (n == k) ≡ t → is_none (rows k) ≡ true
      → used_below g (place_item rows k r) q n x ≡ used_below g rows q n x + cond (nat_lt k n) (cond (r == q) (g.uses k x) 0) 0
      → used_below g (place_item rows k r) q n x + cond (is_in q (cond t (Some r) (rows n))) (g.uses n x) 0 ≡ used_below g rows q n x
      + cond (is_in q (rows n)) (g.uses n x) 0 + cond (nat_lt k (suc n)) (cond (r == q) (g.uses k x) 0) 0
  used_step rows k r q n x true e f h =
      let c : n ≡ k = grind (arith, nat_tests) in
      let a : nat_lt k n ≡ false = grind (arith, nat_tests) in
      let b : nat_lt k (suc n) ≡ true = grind (arith, nat_tests) in
      let d : is_in q (rows n) ≡ false = ap (is_in q) (is_none_of (rows n) (subst (λ z. is_none (rows z) ≡ true) (sym c) f)) in
      let u : g.uses n x ≡ g.uses k x = ap (λ z. g.uses z x) c in
      last_used (used_below g (place_item rows k r) q n x) (used_below g rows q n x) (g.uses n x) (g.uses k x) (nat_lt k n) (nat_lt k (suc n))
      (is_in q (rows n)) (r == q) h a b d u
  used_step rows k r q n x false e f h =
      let a : nat_lt k (suc n) ≡ nat_lt k n = grind (arith, nat_tests) in
      mid_used (used_below g (place_item rows k r) q n x) (used_below g rows q n x) (cond (is_in q (rows n)) (g.uses n x) 0) (cond (r == q) (g.uses k x) 0)
      (nat_lt k n) (nat_lt k (suc n)) h a

  used_put : (rows : Rows) (k r q n : ℕ) (x : Kind) → is_none (rows k) ≡ true
      → used_below g (place_item rows k r) q n x ≡ used_below g rows q n x + cond (nat_lt k n) (cond (r == q) (g.uses k x) 0) 0
  used_put rows k r q zero x e = let f : nat_lt k 0 ≡ false = grind (arith, nat_tests) in rw f (omega arith)
  used_put rows k r q (suc n) x e = used_step rows k r q n x (n == k) refl e (used_put rows k r q n x e)

  not_in : (q : ℕ) (o : Option ℕ) → ((k : ℕ) → o ≡ Some k → k < q) → is_in q o ≡ false
  not_in q None h = refl
  not_in q (Some k) h = let l : k < q = h k refl in grind (arith, nat_tests)

  none_in : (rows : Rows) (q n : ℕ) (x : Kind) → ((j k : ℕ) → j < n → rows j ≡ Some k → k < q) → used_below g rows q n x ≡ 0
  none_in rows q zero x h = refl
  none_in rows q (suc n) x h =
      let e : is_in q (rows n) ≡ false = not_in q (rows n) (λ k f. h n k (omega arith) f) in
      rw e (omega (arith, none_in rows q n x (λ j k p f. h j k (omega (arith, p)) f)))

  -- what a row uses and an open item are among what all use
  open_used : (rows : Rows) (q j n : ℕ) (x : Kind) (t : Bool) → (n == j) ≡ t → is_none (rows j) ≡ true
      → used_below g rows q n x + cond (nat_lt j n) (g.uses j x) 0 ≤ used_by_all g n x
      → used_below g rows q n x + cond (is_in q (rows n)) (g.uses n x) 0 + cond (nat_lt j (suc n)) (g.uses j x) 0 ≤ used_by_all g n x + g.uses n x
  open_used rows q j n x true e f h =
      let c : n ≡ j = grind (arith, nat_tests) in
      let a : nat_lt j n ≡ false = grind (arith, nat_tests) in
      let b : nat_lt j (suc n) ≡ true = grind (arith, nat_tests) in
      let d : is_in q (rows n) ≡ false = ap (is_in q) (is_none_of (rows n) (subst (λ z. is_none (rows z) ≡ true) (sym c) f)) in
      let u : g.uses n x ≡ g.uses j x = ap (λ z. g.uses z x) c in
      last_open (used_below g rows q n x) (used_by_all g n x) (g.uses n x) (g.uses j x) (nat_lt j n) (nat_lt j (suc n)) (is_in q (rows n)) h a b d u
  open_used rows q j n x false e f h =
      let a : nat_lt j (suc n) ≡ nat_lt j n = grind (arith, nat_tests) in
      mid_open (used_below g rows q n x) (used_by_all g n x) (g.uses n x) (g.uses j x) (nat_lt j n) (nat_lt j (suc n)) (is_in q (rows n)) h a

  pub used_open : (rows : Rows) (q j n : ℕ) (x : Kind) → is_none (rows j) ≡ true
      → used_below g rows q n x + cond (nat_lt j n) (g.uses j x) 0 ≤ used_by_all g n x
  used_open rows q j zero x e = let f : nat_lt j 0 ≡ false = grind (arith, nat_tests) in rw f (omega arith)
  used_open rows q j (suc n) x e = open_used rows q j n x (n == j) refl e (used_open rows q j n x e)

-- an edge whose first item is not placed lets nothing stand
lets_none : (a b : Bool) (l k : ℕ) (o : Option ℕ) → cond a (is_before l None) (cond b (is_by l None) true) ≡ true
    → cond a (is_before k o) (cond b (is_by k o) true) ≡ true
lets_none true b l k o e = absurd (cc e)
lets_none false true l k o e = absurd (cc e)
lets_none false false l k o e = refl

module _ (g : ItemGraph) where
  -- what is let depends on the first item's row alone
  pub lets_same : (rows other : Rows) (l i j : ℕ) → rows i ≡ other i → leaves_row_open g rows l i j ≡ leaves_row_open g other l i j
  lets_same rows other l i j e = ap (λ o. cond (g.strict i j) (is_before l o) (cond (g.weak i j) (is_by l o) true)) e

  pub lets_open : (rows other : Rows) (l k i j : ℕ) → is_none (rows i) ≡ true → leaves_row_open g rows l i j ≡ true → leaves_row_open g other k i j ≡ true
  lets_open rows other l k i j e h = lets_none (g.strict i j) (g.weak i j) l k (other i)
      (subst (λ o. cond (g.strict i j) (is_before l o) (cond (g.weak i j) (is_by l o) true) ≡ true) (is_none_of (rows i) e) h)

  pub stands : (units : Units) (rows : Rows) (r : ℕ) (used : Units) (j : ℕ) → may_stand g units rows r used j ≡ true → is_none (rows j) ≡ true
  stands units rows r used j e = and_first (is_none (rows j)) (is_ready g rows r j)
      (and_first (is_none (rows j) && is_ready g rows r j) (suffice units used (g.uses j)) e)

  pub stands_ready : (units : Units) (rows : Rows) (r : ℕ) (used : Units) (j i : ℕ) → may_stand g units rows r used j ≡ true → i < j
      → leaves_row_open g rows r i j ≡ true
  stands_ready units rows r used j i e h =
      in_all (λ k. leaves_row_open g rows r k j) j 0 i
      (and_second (is_none (rows j)) (is_ready g rows r j) (and_first (is_none (rows j) && is_ready g rows r j) (suffice units used (g.uses j)) e))
      (omega arith) (omega (arith, h))

module _ (g : ItemGraph) (units : Units) where
  -- at the beginning of a row
  pub record Begun (r : ℕ) (rows : Rows) : Type 0 where
    pub valid : (i j k : ℕ) → i < j → j < g.count → rows j ≡ Some k → leaves_row_open g rows k i j ≡ true
    pub low : (j k : ℕ) → j < g.count → rows j ≡ Some k → k < r
    pub within : (q : ℕ) (x : Kind) → used_in g rows q x ≤ units x

  -- within it
  pub record Going (r : ℕ) (rows : Rows) (used : Units) : Type 0 where
    pub begun : Begun (suc r) rows
    pub now : (x : Kind) → used_in g rows r x ≡ used x

  pub begins : (r : ℕ) (rows : Rows) → Begun r rows → Going r rows none_used
  begins r rows b = record {
    begun = record { valid = b.valid; low = λ j k p e. (omega (arith, b.low j k p e)); within = b.within };
    now = λ x. none_in g rows r g.count x (λ j k p e. b.low j k p e);
  }

  valid_put : (r : ℕ) (rows : Rows) (used : Units) (k : ℕ) → Going r rows used → may_stand g units rows r used k ≡ true → (i j l : ℕ) (s t : Bool)
      → (j == k) ≡ t → (i == k) ≡ s → i < j → j < g.count → cond t (Some r) (rows j) ≡ Some l → leaves_row_open g (place_item rows k r) l i j ≡ true
  valid_put r rows used k w e i j l s true p q h n f =
      let c : j ≡ k = grind (arith, nat_tests) in
      let d : r ≡ l = same_Some r l f in
      let u : i < k = omega (arith, h, c) in
      let v : i ≢ k = omega (arith, u) in
      subst (λ z. leaves_row_open g (place_item rows k r) l i z ≡ true) (sym c)
      (subst (λ z. leaves_row_open g (place_item rows k r) z i k ≡ true) d
      (lets_same g (place_item rows k r) rows r i k (put_other rows k r i v) ∙ stands_ready g units rows r used k i e u))
  valid_put r rows used k w e i j l true false p q h n f =
      let c : i ≡ k = grind (arith, nat_tests) in
      lets_open g rows (place_item rows k r) l l i j (subst (λ z. is_none (rows z) ≡ true) (sym c) (stands g units rows r used k e)) (w.begun.valid i j l h n f)
  valid_put r rows used k w e i j l false false p q h n f =
      let v : i ≢ k = grind (arith, nat_tests) in
      lets_same g (place_item rows k r) rows l i j (put_other rows k r i v) ∙ w.begun.valid i j l h n f

  low_put : (r : ℕ) (rows : Rows) (used : Units) (k : ℕ) → Going r rows used → (j l : ℕ) (t : Bool) → j < g.count
      → cond t (Some r) (rows j) ≡ Some l → l < suc r
  low_put r rows used k w j l true n f = let d : r ≡ l = same_Some r l f in omega (arith, d)
  low_put r rows used k w j l false n f = w.begun.low j l n f

  used_now : (rows : Rows) (k r q : ℕ) (x : Kind) (u : ℕ) (b : Bool) → (r == q) ≡ b → nat_lt k g.count ≡ true
      → used_in g (place_item rows k r) q x ≡ used_in g rows q x + cond (nat_lt k g.count) (cond b (g.uses k x) 0) 0 → used_in g rows q x ≤ u
      → (r ≡ q → used_in g rows q x + g.uses k x ≤ u) → used_in g (place_item rows k r) q x ≤ u
  used_now rows k r q x u true e f h i w = let c : r ≡ q = grind (arith, nat_tests) in more_used_within _ _ _ _ (nat_lt k g.count) f h (w c)
  used_now rows k r q x u false e f h i w = no_more_used _ _ _ (nat_lt k g.count) h i

  pub keeps : (r : ℕ) (rows : Rows) (used : Units) (k : ℕ) → Going r rows used → k < g.count → may_stand g units rows r used k ≡ true
      → Going r (place_item rows k r) (more_units used (g.uses k))
  keeps r rows used k w n e =
      let lt : nat_lt k g.count ≡ true = lt-ltb k g.count n in
      let fits = suffices units used (g.uses k) (and_second (is_none (rows k) && is_ready g rows r k) (suffice units used (g.uses k)) e) in
      let o : is_none (rows k) ≡ true = stands g units rows r used k e in
      record {
        begun = record {
          valid = λ i j l h p f. valid_put r rows used k w e i j l (i == k) (j == k) refl refl h p f;
          low = λ j l p f. low_put r rows used k w j l (j == k) p f;
          within = λ q x. used_now rows k r q x (units x) (r == q) refl lt (used_put g rows k r q g.count x o) (w.begun.within q x)
              (λ c. (let y : used_in g rows q x ≡ used x = subst (λ z. used_in g rows z x ≡ used x) c (w.now x) in omega (arith, y, fits x)));
        };
        now = λ x. now_used _ _ (g.uses k x) (used x) (nat_lt k g.count) (r == r) lt (eqb_self r) (used_put g rows k r r g.count x o) (w.now x);
      }

  pub begun_first : Begun 0 (λ i. None)
  begun_first = record {
    valid = λ i j k h n e. absurd (cc e);
    low = λ j k n e. absurd (cc e);
    within = λ q x. (let z : used_in g (λ i. None) q x ≡ 0 = none_in g (λ i. None) q g.count x (λ j k n e. absurd (cc e)) in omega (arith, z));
  }

module _ (g : ItemGraph) (units : Units) (each : EachItemFits g units) where
  fill_holds : Ends g units (Begun g units) (Going g units) (begins g units) (keeps g units) (λ r rows used w stuck some. w.begun)
      (λ r rows j k b n e. b.low j k n e) each (filling_of g units)
  fill_holds = filling_ends g units (Begun g units) (Going g units) (begins g units) (keeps g units) (λ r rows used w stuck some. w.begun)
      (λ r rows j k b n e. b.low j k n e) each (begun_first g units)

  is_low : (r : ℕ) (o : Option ℕ) → is_none o ≡ false → ((k : ℕ) → o ≡ Some k → k < r) → is_before r o ≡ true
  is_low r None e h = absurd (cc e)
  is_low r (Some k) e h = lt-ltb k r (h k refl)

  pub is_filled : IsFilled g units (filling_of g units)
  is_filled =
      let w = fill_holds in
      record {
        placed = λ j n. is_low (filling_of g units).count ((filling_of g units).rows j) (w.placed j n) (λ k e. w.holds.low j k n e);
        valid = λ i j k h n e. w.holds.valid i j k h n e;
        within = λ r. does_suffice units none_used (used_in g (filling_of g units).rows r) (λ x. (omega (arith, w.holds.within r x)));
        no_more = w.no_more;
      }
