-- What is kept by each item that is placed, and from row to row, holds of a filling.
use Rattle.std.proofs.Common.{◌≡◌, ℕ, zero, suc, ◌+◌, ◌<◌, ◌≤◌, refl, sym, ◌∙◌, ap, subst, arith, Bool, true, false, Option, Some, None}
use Rattle.std.specs.Prelude.{◌≢◌, ◌==◌, not, ◌&&◌, nat_lt, cond}
use Rattle.std.specs.Option.{is_none}
use Rattle.std.specs.List.{list_all, range_with_len}
use Rattle.std.proofs.lemmas.Bool.Decides.{nat_tests}
use Rattle.std.proofs.lemmas.Bool.{and_from, not-true, lt-ltb}
use Rattle.std.proofs.lemmas.Option.{same_Some}
use Rattle.fs_model.proofs.Booleans.{and_first, and_second}
use Rattle.hls_block_filling.specs.ItemUnits.{Units, none_used, suffice}
use Rattle.hls_block_filling.specs.Filling.{ItemGraph, Rows, place_item, leaves_row_open, is_ready, may_stand, higher_of, highest_number, next_item, more_units}
use Rattle.hls_block_filling.specs.Filling.{row_filled, all_placed}
use Rattle.hls_block_filling.specs.Filling.{Filled, filled_from, filling_of, EachItemFits}

-- ---- tests of a range
pub all_range : (f : ℕ → Bool) (n a : ℕ) → ((j : ℕ) → a ≤ j → j < a + n → f j ≡ true) → list_all f (range_with_len a n) ≡ true
all_range f zero a h = refl
all_range f (suc n) a h = and_from (f a) (list_all f (range_with_len (a + 1) n)) (h a (omega arith) (omega arith))
    (all_range f n (a + 1) (λ j p q. h j (omega (arith, p)) (omega (arith, q))))

in_step : (f : ℕ → Bool) (n a j : ℕ) (t : Bool) → (j == a) ≡ t → (f a && list_all f (range_with_len (a + 1) n)) ≡ true → (a + 1 ≤ j → f j ≡ true)
    → a ≤ j → f j ≡ true
in_step f n a j true e h w p = let g : a ≡ j = grind (arith, nat_tests) in subst (λ z. f z ≡ true) g (and_first (f a) (list_all f (range_with_len (a + 1) n)) h)
in_step f n a j false e h w p = w (let d : j ≢ a = grind (arith, nat_tests) in omega (arith, d, p))

pub in_all : (f : ℕ → Bool) (n a j : ℕ) → list_all f (range_with_len a n) ≡ true → a ≤ j → j < a + n → f j ≡ true
in_all f zero a j h p q = absurd (omega (arith, p, q))
in_all f (suc n) a j h p q = in_step f n a j (j == a) refl h
    (λ i. in_all f n (a + 1) j (and_second (f a) (list_all f (range_with_len (a + 1) n)) h) i (omega (arith, q))) p

-- ---- the highest
pub record Passes (test : ℕ → Bool) (n k : ℕ) : Type 0 where
  pub within : k < n
  pub is : test k ≡ true

wider : (test : ℕ → Bool) (n k : ℕ) → Passes test n k → Passes test (suc n) k
wider test n k p = record { within = omega (arith, p.within); is = p.is }

pick_step : (test : ℕ → Bool) (n p k : ℕ) (b : Bool) → test n ≡ true → Passes test n p → cond b n p ≡ k → Passes test (suc n) k
pick_step test n p k true e w f = record { within = omega (arith, f); is = subst (λ z. test z ≡ true) f e }
pick_step test n p k false e w f = subst (Passes test (suc n)) f (wider test n p w)

higher_passes : (test : ℕ → Bool) (height : ℕ → ℕ) (n k : ℕ) (o : Option ℕ) → ((p : ℕ) → o ≡ Some p → Passes test n p) → test n ≡ true
    → higher_of height n o ≡ k
    → Passes test (suc n) k
higher_passes test height n k None w e f = record { within = omega (arith, f); is = subst (λ z. test z ≡ true) f e }
higher_passes test height n k (Some p) w e f = pick_step test n p k (nat_lt (height p) (height n)) e (w p refl) f

passes_step : (test : ℕ → Bool) (height : ℕ → ℕ) (n k : ℕ) (o : Option ℕ) (t : Bool) → test n ≡ t → ((p : ℕ) → o ≡ Some p → Passes test n p)
    → cond t (Some (higher_of height n o)) o ≡ Some k → Passes test (suc n) k
passes_step test height n k o true e w f = higher_passes test height n k o w e (same_Some (higher_of height n o) k f)
passes_step test height n k o false e w f = wider test n k (w k f)

pub highest_passes : (test : ℕ → Bool) (height : ℕ → ℕ) (n k : ℕ) → highest_number test height n ≡ Some k → Passes test n k
highest_passes test height zero k e = absurd (cc e)
highest_passes test height (suc n) k e = passes_step test height n k (highest_number test height n) (test n) refl (λ p f. highest_passes test height n p f) e

last_step : (test : ℕ → Bool) (n j : ℕ) (t : Bool) → (j == n) ≡ t → test n ≡ false → j < suc n → (j < n → test j ≡ false) → test j ≡ false
last_step test n j true e f i w = let g : n ≡ j = grind (arith, nat_tests) in subst (λ z. test z ≡ false) g f
last_step test n j false e f i w = w (let d : j ≢ n = grind (arith, nat_tests) in omega (arith, d, i))

none_step : (test : ℕ → Bool) (height : ℕ → ℕ) (n j : ℕ) (o : Option ℕ) (t : Bool) → test n ≡ t → cond t (Some (higher_of height n o)) o ≡ None → j < suc n
    → (o ≡ None → j < n → test j ≡ false) → test j ≡ false
none_step test height n j o true e f i w = absurd (cc f)
none_step test height n j o false e f i w = last_step test n j (j == n) refl e i (w f)

pub none_passes : (test : ℕ → Bool) (height : ℕ → ℕ) (n j : ℕ) → highest_number test height n ≡ None → j < n → test j ≡ false
none_passes test height zero j e i = absurd (omega (arith, i))
none_passes test height (suc n) j e i = none_step test height n j (highest_number test height n) (test n) refl e i (λ f h. none_passes test height n j f h)

-- ---- how many are open
abbrev pub open_below : Rows → ℕ → ℕ
open_below rows zero = 0
open_below rows (suc n) = open_below rows n + cond (is_none (rows n)) 1 0

open_step : (rows : Rows) (n j : ℕ) (b : Bool) → is_none (rows n) ≡ b → (t : Bool) → (j == n) ≡ t → open_below rows n + cond b 1 0 ≡ 0 → j < suc n
    → (open_below rows n ≡ 0 → j < n → is_none (rows j) ≡ false) → is_none (rows j) ≡ false
open_step rows n j true f t e h i w = absurd (omega (arith, h))
open_step rows n j false f true e h i w = let g : n ≡ j = grind (arith, nat_tests) in subst (λ z. is_none (rows z) ≡ false) g f
open_step rows n j false f false e h i w = w (omega (arith, h)) (let d : j ≢ n = grind (arith, nat_tests) in omega (arith, d, i))

pub none_open : (rows : Rows) (n j : ℕ) → open_below rows n ≡ 0 → j < n → is_none (rows j) ≡ false
none_open rows zero j e i = absurd (omega (arith, i))
none_open rows (suc n) j e i = open_step rows n j (is_none (rows n)) refl (j == n) refl e i (λ f h. none_open rows n j f h)

last_put : (x y : ℕ) (a b c : Bool) → x + cond a 1 0 ≡ y → a ≡ false → b ≡ true → c ≡ true → x + 0 + cond b 1 0 ≡ y + cond c 1 0
last_put x y a b c h p q r = grind (arith, p, q, r)

mid_put : (x y z : ℕ) (a b : Bool) → x + cond a 1 0 ≡ y → b ≡ a → x + z + cond b 1 0 ≡ y + z
mid_put x y z true b h e = rw e (omega (arith, h))
mid_put x y z false b h e = rw e (omega (arith, h))

put_step : (rows : Rows) (k r n : ℕ) (t : Bool) → (n == k) ≡ t → is_none (rows k) ≡ true
    → open_below (place_item rows k r) n + cond (nat_lt k n) 1 0 ≡ open_below rows n
    → open_below (place_item rows k r) n + cond (is_none (cond t (Some r) (rows n))) 1 0 + cond (nat_lt k (suc n)) 1 0 ≡ open_below rows n
    + cond (is_none (rows n)) 1 0
put_step rows k r n true e f h =
    let g : n ≡ k = grind (arith, nat_tests) in
    let a : nat_lt k n ≡ false = grind (arith, nat_tests) in
    let b : nat_lt k (suc n) ≡ true = grind (arith, nat_tests) in
    let c : is_none (rows n) ≡ true = subst (λ z. is_none (rows z) ≡ true) (sym g) f in
    last_put (open_below (place_item rows k r) n) (open_below rows n) (nat_lt k n) (nat_lt k (suc n)) (is_none (rows n)) h a b c
put_step rows k r n false e f h =
    let a : nat_lt k (suc n) ≡ nat_lt k n = grind (arith, nat_tests) in
    mid_put (open_below (place_item rows k r) n) (open_below rows n) (cond (is_none (rows n)) 1 0) (nat_lt k n) (nat_lt k (suc n)) h a

pub put_open : (rows : Rows) (k r n : ℕ) → is_none (rows k) ≡ true → open_below (place_item rows k r) n + cond (nat_lt k n) 1 0 ≡ open_below rows n
put_open rows k r zero e = let f : nat_lt k 0 ≡ false = grind (arith, nat_tests) in rw f (omega arith)
put_open rows k r (suc n) e = put_step rows k r n (n == k) refl e (put_open rows k r n e)

pub is_none_of : (o : Option ℕ) → is_none o ≡ true → o ≡ None
is_none_of None e = refl
is_none_of (Some k) e = absurd (cc e)

-- the first that is open
record FirstOpen (rows : Rows) (n : ℕ) : Type 0 where
  number : ℕ
  within : number < n
  is_open : is_none (rows number) ≡ true
  others : (i : ℕ) → i < number → is_none (rows i) ≡ false

first_step : (rows : Rows) (n x : ℕ) (b : Bool) → is_none (rows n) ≡ b → open_below rows n ≡ x → 0 < x + cond b 1 0 → (0 < open_below rows n → FirstOpen rows n)
    → FirstOpen rows (suc n)
first_step rows n zero true e f h w = record { number = n; within = omega arith; is_open = e; others = λ i p. none_open rows n i f p }
first_step rows n zero false e f h w = absurd (omega (arith, h))
first_step rows n (suc x) b e f h w = let o = w (omega (arith, f)) in
    record { number = o.number; within = omega (arith, o.within); is_open = o.is_open; others = o.others }

first_open : (rows : Rows) (n : ℕ) → 0 < open_below rows n → FirstOpen rows n
first_open rows zero h = absurd (omega (arith, h))
first_open rows (suc n) h = first_step rows n (open_below rows n) (is_none (rows n)) refl refl h (λ i. first_open rows n i)

pub open_all : (n : ℕ) → open_below (λ i. None) n ≡ n
open_all zero = refl
open_all (suc n) = omega (arith, open_all n)

pub and_of_false : (a b c : Bool) → a ≡ false → (a && b && c) ≡ false
and_of_false a b c e = grind arith

pub one_less : (b : Bool) (x y : ℕ) → b ≡ true → x + cond b 1 0 ≡ y → x + 1 ≡ y
one_less true x y e h = h
one_less false x y e h = absurd (cc e)

lets_some : (a b : Bool) (k r : ℕ) → k < r → cond a (nat_lt k r) (cond b (not (nat_lt r k)) true) ≡ true
lets_some a b k r h = grind (arith, nat_tests)

-- a row has an item
pub record InRow (g : ItemGraph) (rows : Rows) (r : ℕ) : Type 0 where
  pub number : ℕ
  pub within : number < g.count
  pub is : rows number ≡ Some r

pub put_same : (rows : Rows) (k r : ℕ) → place_item rows k r k ≡ Some r
put_same rows k r = let e : (k == k) ≡ true = grind (arith, nat_tests) in rw e refl

put_other_by : (rows : Rows) (k r j : ℕ) (t : Bool) → (j == k) ≡ t → j ≢ k → cond t (Some r) (rows j) ≡ rows j
put_other_by rows k r j true e n = absurd (n (grind (arith, nat_tests)))
put_other_by rows k r j false e n = refl

pub put_other : (rows : Rows) (k r j : ℕ) → j ≢ k → place_item rows k r j ≡ rows j
put_other rows k r j n = put_other_by rows k r j (j == k) refl n

pub open_differs : (rows : Rows) (k j q : ℕ) → is_none (rows k) ≡ true → rows j ≡ Some q → j ≢ k
open_differs rows k j q e f =
    λ h. (let i : is_none (rows j) ≡ true = subst (λ z. is_none (rows z) ≡ true) (sym h) e in let l : is_none (rows j) ≡ false = ap is_none f in cc (sym l ∙ i))

module _ (g : ItemGraph) (units : Units) (S : ℕ → Rows → Type 0) (I : ℕ → Rows → Units → Type 0)
    (starts : (r : ℕ) (rows : Rows) → S r rows → I r rows none_used)
    (keeps : (r : ℕ) (rows : Rows) (used : Units) (k : ℕ) → I r rows used → k < g.count → may_stand g units rows r used k ≡ true
    → I r (place_item rows k r) (more_units used (g.uses k)))
    (turns : (r : ℕ) (rows : Rows) (used : Units) → I r rows used → ((j : ℕ) → j < g.count → may_stand g units rows r used j ≡ false) → InRow g rows r
    → S (suc r) rows)
    (low : (r : ℕ) (rows : Rows) (j k : ℕ) → S r rows → j < g.count → rows j ≡ Some k → k < r)
    (each : EachItemFits g units) where
  -- a row at its end
  pub record EndsRow (r : ℕ) (rows : Rows) (used : Units) (out : Rows) : Type 0 where
    pub used_out : Units
    pub holds : I r out used_out
    pub stuck : (j : ℕ) → j < g.count → may_stand g units out r used_out j ≡ false
    pub no_more : open_below out g.count ≤ open_below rows g.count
    pub fewer : (j : ℕ) → j < g.count → may_stand g units rows r used j ≡ true → open_below out g.count < open_below rows g.count
    pub stays : (j q : ℕ) → rows j ≡ Some q → out j ≡ Some q
    pub some : (j : ℕ) → j < g.count → may_stand g units rows r used j ≡ true → InRow g out r

  pub stands_open : (rows : Rows) (r : ℕ) (used : Units) (j : ℕ) → may_stand g units rows r used j ≡ true → is_none (rows j) ≡ true
  stands_open rows r used j e = and_first (is_none (rows j)) (is_ready g rows r j)
      (and_first (is_none (rows j) && is_ready g rows r j) (suffice units used (g.uses j)) e)

  full_row : (rows : Rows) (r : ℕ) (used : Units) (j : ℕ) → is_none (rows j) ≡ false → may_stand g units rows r used j ≡ false
  full_row rows r used j e = and_of_false (is_none (rows j)) (is_ready g rows r j) (suffice units used (g.uses j)) e

  row_step : (n r : ℕ) (rows : Rows) (used : Units) (o : Option ℕ) → next_item g units rows r used ≡ o → I r rows used → open_below rows g.count ≤ suc n
      → ((k : ℕ) → I r (place_item rows k r) (more_units used (g.uses k)) → open_below (place_item rows k r) g.count ≤ n
      → EndsRow r (place_item rows k r) (more_units used (g.uses k)) (row_filled g units n r (place_item rows k r) (more_units used (g.uses k))))
      → EndsRow r rows used (elim o as (λ _. Rows) [ None ↦ rows | Some k ↦ row_filled g units n r (place_item rows k r) (more_units used (g.uses k)) ])
  row_step n r rows used None e i h next = record {
    used_out = used;
    holds = i;
    stuck = λ j p. none_passes (may_stand g units rows r used) g.height g.count j e p;
    no_more = omega arith;
    fewer =
        λ j p q. absurd (let f : may_stand g units rows r used j ≡ false = none_passes (may_stand g units rows r used) g.height g.count j e p in
        cc (sym f ∙ q));
    stays = λ j q f. f;
    some =
        λ j p q. absurd (let f : may_stand g units rows r used j ≡ false = none_passes (may_stand g units rows r used) g.height g.count j e p in
        cc (sym f ∙ q));
  }
  row_step n r rows used (Some k) e i h next =
      let w = highest_passes (may_stand g units rows r used) g.height g.count k e in
      let a : nat_lt k g.count ≡ true = lt-ltb k g.count w.within in
      let c : open_below (place_item rows k r) g.count + 1 ≡ open_below rows g.count =
      one_less (nat_lt k g.count) (open_below (place_item rows k r) g.count) (open_below rows g.count) a
      (put_open rows k r g.count (stands_open rows r used k w.is)) in
      let d = next k (keeps r rows used k i w.within w.is) (omega (arith, c, h)) in
      record {
        used_out = d.used_out;
        holds = d.holds;
        stuck = d.stuck;
        no_more = omega (arith, c, d.no_more);
        fewer = λ j p q. (omega (arith, c, d.no_more));
        stays = λ j q f. d.stays j q (put_other rows k r j (open_differs rows k j q (stands_open rows r used k w.is) f) ∙ f);
        some = λ j p q. record { number = k; within = w.within; is = d.stays k r (put_same rows k r) };
      }

  pub row_ends : (n r : ℕ) (rows : Rows) (used : Units) → I r rows used → open_below rows g.count ≤ n → EndsRow r rows used (row_filled g units n r rows used)
  row_ends zero r rows used i h =
      let z : open_below rows g.count ≡ 0 = omega (arith, h) in
      record {
        used_out = used;
        holds = i;
        stuck = λ j p. full_row rows r used j (none_open rows g.count j z p);
        no_more = omega arith;
        fewer =
            λ j p q. absurd (let f : is_none (rows j) ≡ false = none_open rows g.count j z p in let k : is_none (rows j) ≡ true = stands_open rows r used j q in
            cc (sym f ∙ k));
        stays = λ j q f. f;
        some =
            λ j p q. absurd (let f : is_none (rows j) ≡ false = none_open rows g.count j z p in let k : is_none (rows j) ≡ true = stands_open rows r used j q in
            cc (sym f ∙ k));
      }
  row_ends (suc n) r rows used i h = row_step n r rows used (next_item g units rows r used) refl i h
      (λ k j p. row_ends n r (place_item rows k r) (more_units used (g.uses k)) j p)

  -- what comes of it
  pub record Ends (f : Filled) : Type 0 where
    pub holds : S f.count f.rows
    pub placed : (j : ℕ) → j < g.count → is_none (f.rows j) ≡ false
    pub no_more : f.count ≤ g.count

  -- an item before which all are placed may be placed first
  lets_placed : (rows : Rows) (r i j : ℕ) (o : Option ℕ) → rows i ≡ o → is_none o ≡ false → ((k : ℕ) → o ≡ Some k → k < r) → leaves_row_open g rows r i j ≡ true
  lets_placed rows r i j None e f h = absurd (cc f)
  lets_placed rows r i j (Some k) e f h = rw e (lets_some (g.strict i j) (g.weak i j) k r (h k refl))

  pub row_begins : (r : ℕ) (rows : Rows) → S r rows → 0 < open_below rows g.count → (j : ℕ) × (j < g.count) × (may_stand g units rows r none_used j ≡ true)
  row_begins r rows s h =
      let o = first_open rows g.count h in
      let ready : is_ready g rows r o.number ≡ true = all_range (λ i. leaves_row_open g rows r i o.number) o.number 0
      (λ i p q. lets_placed rows r i o.number (rows i) refl (o.others i (omega (arith, q))) (λ k e. low r rows i k s (omega (arith, q, o.within)) e)) in (
        o.number,
        o.within,
        and_from (is_none (rows o.number) && is_ready g rows r o.number) (suffice units none_used (g.uses o.number))
            (and_from (is_none (rows o.number)) (is_ready g rows r o.number) o.is_open ready) (each o.number o.within),
      )

  pub some_open : (rows : Rows) (x : ℕ) → open_below rows g.count ≡ x → all_placed g rows ≡ false → 0 < open_below rows g.count
  some_open rows zero e f =
      absurd
      (let h : all_placed g rows ≡ true = all_range (λ i. not (is_none (rows i))) g.count 0 (λ j p q. ap not (none_open rows g.count j e (omega (arith, q)))) in
      cc (sym f ∙ h))
  some_open rows (suc x) e f = omega (arith, e)

  fills_step : (n r : ℕ) (rows : Rows) (t : Bool) → all_placed g rows ≡ t → S r rows → open_below rows g.count ≤ suc n → r + open_below rows g.count ≤ g.count
      → ((out : Rows) → S (suc r) out → open_below out g.count ≤ n → suc r + open_below out g.count ≤ g.count → Ends (filled_from g units n (suc r) out))
      → Ends (cond t (record { rows = rows; count = r }) (filled_from g units n (suc r) (row_filled g units g.count r rows none_used)))
  fills_step n r rows true e s h b next = record {
    holds = s;
    placed = λ j p. not-true (is_none (rows j)) (in_all (λ i. not (is_none (rows i))) g.count 0 j e (omega arith) (omega (arith, p)));
    no_more = omega (arith, b);
  }
  fills_step n r rows false e s h b next =
      let some : 0 < open_below rows g.count = some_open rows (open_below rows g.count) refl e in
      let w = row_begins r rows s some in
      let d = row_ends g.count r rows none_used (starts r rows s) (omega (arith, b)) in
      let l : open_below (row_filled g units g.count r rows none_used) g.count < open_below rows g.count = d.fewer w.0 w.1 w.2 in
      next (row_filled g units g.count r rows none_used) (turns r (row_filled g units g.count r rows none_used) d.used_out d.holds d.stuck (d.some w.0 w.1 w.2))
      (omega (arith, l, h)) (omega (arith, l, b))

  fills : (n r : ℕ) (rows : Rows) → S r rows → open_below rows g.count ≤ n → r + open_below rows g.count ≤ g.count → Ends (filled_from g units n r rows)
  fills zero r rows s h b =
      let z : open_below rows g.count ≡ 0 = omega (arith, h) in
      record { holds = s; placed = λ j p. none_open rows g.count j z p; no_more = omega (arith, b) }
  fills (suc n) r rows s h b = fills_step n r rows (all_placed g rows) refl s h b (λ out t p q. fills n (suc r) out t p q)

  pub filling_ends : S 0 (λ i. None) → Ends (filling_of g units)
  filling_ends s = fills g.count 0 (λ i. None) s (omega (arith, open_all g.count)) (omega (arith, open_all g.count))
