-- With units for all items, each stands as early as it can.
use Rattle.std.proofs.Common.{◌≡◌, ℕ, zero, suc, ◌+◌, ◌<◌, ◌≤◌, List, [], refl, sym, ◌∙◌, subst, arith, Bool, true, false, Option, Some, None, length}
use Rattle.std.specs.Prelude.{◌==◌, ◌&&◌, nat_lt, cond}
use Rattle.std.specs.Option.{is_none}
use Rattle.std.specs.List.{list_all, range_with_len, slice_index_or}
use Rattle.std.proofs.lemmas.Bool.Decides.{nat_tests}
use Rattle.std.proofs.lemmas.Bool.{lt-ltb}
use Rattle.std.proofs.lemmas.Option.{same_Some}
use Rattle.hls_block_filling.specs.Items.{Item, is_strict, is_weak}
use Rattle.hls_block_filling.specs.ItemUnits.{Units, none_used, suffice}
use Rattle.hls_block_filling.specs.Heights.{heights, chain_of}
use Rattle.hls_block_filling.specs.Filling.{ItemGraph, graph_of, Rows, place_item, is_before, is_by, leaves_row_open, is_ready, may_stand, more_units}
use Rattle.hls_block_filling.specs.Filling.{filling_of}
use Rattle.hls_block_filling.specs.Filling.{used_in}
use Rattle.hls_block_filling.specs.Filling.{used_by_all, EachItemFits, placed_by}
use Rattle.hls_block_filling.proofs.Fills.{InRow, put_other, filling_ends}
use Rattle.hls_block_filling.proofs.Placings.{suffices, does_suffice, used_open, lets_same, lets_open, stands, Begun, Going, begins, keeps, begun_first}
use Rattle.hls_block_filling.proofs.Chains.{no_shorter}
use Rattle.hls_block_filling.proofs.Lists.{same_items, placed_valid, placed_below, heights_fall, below_chain}

-- an earlier item holds another back from a row
pub record Held (g : ItemGraph) (rows : Rows) (r j : ℕ) : Type 0 where
  pub by : ℕ
  pub before : by < j
  pub holds : leaves_row_open g rows r by j ≡ false

fails_step : (f : ℕ → Bool) (n a : ℕ) (t : Bool) → f a ≡ t → (t && list_all f (range_with_len (a + 1) n)) ≡ false
    → (list_all f (range_with_len (a + 1) n) ≡ false → (i : ℕ) × (i < a + 1 + n) × (f i ≡ false)) → (i : ℕ) × (i < a + suc n) × (f i ≡ false)
fails_step f n a true e h w = let r = w h in (r.0, (let i : r.0 < a + 1 + n = r.1 in omega (arith, i)), r.2)
fails_step f n a false e h w = (a, omega arith, e)

third_fails : (a b c : Bool) → a ≡ true → c ≡ true → (a && b && c) ≡ false → b ≡ false
third_fails a b c e f h = grind arith

open_room : (x used v y u : ℕ) (b : Bool) → b ≡ true → x ≡ used → x + cond b v 0 ≤ y → 0 + y ≤ u → used + v ≤ u
open_room x used v y u true e f h i = omega (arith, f, h, i)
open_room x used v y u false e f h i = absurd (cc e)

held_put_by : (a b : Bool) (p : ℕ) (o : Option ℕ) → cond a (is_before p o) (cond b (is_by p o) true) ≡ false
    → cond a (is_before p (Some (suc p))) (cond b (is_by p (Some (suc p))) true) ≡ false
held_put_by a b p o h = grind (arith, nat_tests)

some_fails : (f : ℕ → Bool) (n a : ℕ) → list_all f (range_with_len a n) ≡ false → (i : ℕ) × (i < a + n) × (f i ≡ false)
some_fails f zero a e = absurd (cc e)
some_fails f (suc n) a e = fails_step f n a (f a) refl e (λ h. some_fails f n (a + 1) h)

module _ (g : ItemGraph) where
  held_by : (rows : Rows) (k r p j i : ℕ) (t : Bool) → (i == k) ≡ t → r ≡ suc p → is_none (rows k) ≡ true → leaves_row_open g rows p i j ≡ false
      → cond (g.strict i j) (is_before p (cond t (Some r) (rows i))) (cond (g.weak i j) (is_by p (cond t (Some r) (rows i))) true) ≡ false
  held_by rows k r p j i true c e f h = subst (λ z. cond (g.strict i j) (is_before p (Some z)) (cond (g.weak i j) (is_by p (Some z)) true) ≡ false) (sym e)
      (held_put_by (g.strict i j) (g.weak i j) p (rows i) h)
  held_by rows k r p j i false c e f h = h

  -- one that is placed in the next row holds back as one that is not placed
  held_put : (rows : Rows) (k r p j : ℕ) → r ≡ suc p → is_none (rows k) ≡ true → Held g rows p j → Held g (place_item rows k r) p j
  held_put rows k r p j e f h = record { by = h.by; before = h.before; holds = held_by rows k r p j h.by (h.by == k) refl e f h.holds }

  -- an edge from an item that is not placed
  held_kept : (rows : Rows) (k r l q j : ℕ) → is_none (rows k) ≡ true → (h : Held g rows l j) → leaves_row_open g rows q h.by j ≡ true
      → Held g (place_item rows k r) l j
  held_kept rows k r l q j f h v = record {
    by = h.by;
    before = h.before;
    holds = lets_same g (place_item rows k r) rows l h.by j
        (put_other rows k r h.by
        (λ e. (let a : leaves_row_open g rows l h.by j ≡ true = lets_open g rows rows q l h.by j (subst (λ z. is_none (rows z) ≡ true) (sym e) f) v in
        let b : leaves_row_open g rows l h.by j ≡ false = h.holds in cc (sym b ∙ a)))) ∙ h.holds;
  }

module _ (g : ItemGraph) (units : Units) (ample : suffice units none_used (used_by_all g g.count) ≡ true) where
  pub record BegunTight (r : ℕ) (rows : Rows) : Type 0 where
    pub base : Begun g units r rows
    pub tight : (j k : ℕ) → j < g.count → rows j ≡ Some (suc k) → Held g rows k j
    pub blocked : (p j : ℕ) → r ≡ suc p → j < g.count → is_none (rows j) ≡ true → Held g rows p j
    pub top : (p : ℕ) → r ≡ suc p → InRow g rows p

  pub record GoingTight (r : ℕ) (rows : Rows) (used : Units) : Type 0 where
    pub base : Going g units r rows used
    pub tight : (j k : ℕ) → j < g.count → rows j ≡ Some (suc k) → Held g rows k j
    pub blocked : (p j : ℕ) → r ≡ suc p → j < g.count → is_none (rows j) ≡ true → Held g rows p j

  begins_tight : (r : ℕ) (rows : Rows) → BegunTight r rows → GoingTight r rows none_used
  begins_tight r rows b = record { base = begins g units r rows b.base; tight = b.tight; blocked = b.blocked }

  tight_put : (r : ℕ) (rows : Rows) (used : Units) (k j l : ℕ) (t : Bool) → GoingTight r rows used → k < g.count → is_none (rows k) ≡ true → (j == k) ≡ t
      → j < g.count → cond t (Some r) (rows j) ≡ Some (suc l) → Held g (place_item rows k r) l j
  tight_put r rows used k j l true w n o e p f =
      let c : j ≡ k = grind (arith, nat_tests) in
      let d : r ≡ suc l = same_Some r (suc l) f in
      subst (λ z. Held g (place_item rows k r) l z) (sym c) (held_put g rows k r l k d o (w.blocked l k d n o))
  tight_put r rows used k j l false w n o e p f =
      let h = w.tight j l p f in
      held_kept g rows k r l (suc l) j o h (w.base.begun.valid h.by j (suc l) h.before p f)

  still_open : (rows : Rows) (k r j : ℕ) (t : Bool) → (j == k) ≡ t → is_none (cond t (Some r) (rows j)) ≡ true → is_none (rows j) ≡ true
  still_open rows k r j true e f = absurd (cc f)
  still_open rows k r j false e f = f

  keeps_tight : (r : ℕ) (rows : Rows) (used : Units) (k : ℕ) → GoingTight r rows used → k < g.count → may_stand g units rows r used k ≡ true
      → GoingTight r (place_item rows k r) (more_units used (g.uses k))
  keeps_tight r rows used k w n e =
      let o : is_none (rows k) ≡ true = stands g units rows r used k e in
      record {
        base = keeps g units r rows used k w.base n e;
        tight = λ j l p f. tight_put r rows used k j l (j == k) w n o refl p f;
        blocked = λ p j c q f. held_put g rows k r p j c o (w.blocked p j c q (still_open rows k r j (j == k) refl f));
      }

  stuck_held : (r : ℕ) (rows : Rows) (used : Units) (j : ℕ) → GoingTight r rows used → j < g.count → is_none (rows j) ≡ true
      → may_stand g units rows r used j ≡ false → Held g rows r j
  stuck_held r rows used j w n o e =
      let fits : suffice units used (g.uses j) ≡ true = does_suffice units used (g.uses j)
      (λ x.
      (open_room (used_in g rows r x) (used x) (g.uses j x) (used_by_all g g.count x) (units x) (nat_lt j g.count) (lt-ltb j g.count n) (w.base.now x)
      (used_open g rows r j g.count x o) (suffices units none_used (used_by_all g g.count) ample x))) in
      let ready : is_ready g rows r j ≡ false = third_fails (is_none (rows j)) (is_ready g rows r j) (suffice units used (g.uses j)) o fits e in
      let h = some_fails (λ i. leaves_row_open g rows r i j) j 0 ready in
      record { by = h.0; before = (let i : h.0 < 0 + j = h.1 in omega (arith, i)); holds = h.2 }

  turns_tight : (r : ℕ) (rows : Rows) (used : Units) → GoingTight r rows used → ((j : ℕ) → j < g.count → may_stand g units rows r used j ≡ false)
      → InRow g rows r → BegunTight (suc r) rows
  turns_tight r rows used w stuck some = record {
    base = w.base.begun;
    tight = w.tight;
    blocked = λ p j c n o. subst (λ z. Held g rows z j) (let d : r ≡ p = omega (arith, c) in d) (stuck_held r rows used j w n o (stuck j n));
    top = λ p c. subst (λ z. InRow g rows z) (let d : r ≡ p = omega (arith, c) in d) some;
  }

  begun_tight_first : BegunTight 0 (λ i. None)
  begun_tight_first = record {
    base = begun_first g units;
    tight = λ j k n e. absurd (cc e);
    blocked = λ p j c n o. absurd (omega (arith, c));
    top = λ p c. absurd (omega (arith, c));
  }

  pub tight_holds : EachItemFits g units → BegunTight (filling_of g units).count (filling_of g units).rows
  tight_holds each =
      (filling_ends g units BegunTight GoingTight begins_tight keeps_tight turns_tight (λ r rows j k b n e. b.base.low j k n e) each begun_tight_first).holds

-- ---- rows and heights
-- an item held back from row l and let into the next stands behind one of that row, or beside one of its own
held_edge : (a b : Bool) (l hi hj n : ℕ) (o : Option ℕ) → cond a (is_before (suc l) o) (cond b (is_by (suc l) o) true) ≡ true
    → cond a (is_before l o) (cond b (is_by l o) true) ≡ false
    → cond a (suc hj) (cond b hj 0) ≤ hi → ((k : ℕ) → o ≡ Some k → k + hi < n) → suc l + hj < n
held_edge true b l hi hj n None e f p h = absurd (cc e)
held_edge true b l hi hj n (Some k) e f p h = let c : k ≡ l = grind (arith, nat_tests) in let d : k + hi < n = h k refl in omega (arith, c, d, p)
held_edge false true l hi hj n None e f p h = absurd (cc e)
held_edge false true l hi hj n (Some k) e f p h = let c : k ≡ suc l = grind (arith, nat_tests) in let d : k + hi < n = h k refl in omega (arith, c, d, p)
held_edge false false l hi hj n o e f p h = absurd (cc f)

module _ (items : List Item) (units : Units) (each : EachItemFits (graph_of items) units)
    (ample : suffice units none_used (used_by_all (graph_of items) (length items)) ≡ true) where
  abbrev G : ItemGraph
  G = graph_of items

  item_room : (b j k : ℕ) → j < b → j < length items → (filling_of (graph_of items) units).rows j ≡ Some k
      → k + slice_index_or (heights items) j 0 < chain_of items
  item_room zero j k c n e = absurd (omega (arith, c))
  item_room (suc b) j zero c n e = omega (arith, below_chain items j n)
  item_room (suc b) j (suc l) c n e =
      let w = tight_holds (graph_of items) units ample each in
      let h = w.tight j l n e in
      held_edge (is_strict (slice_index_or items h.by []) (slice_index_or items j []))
      (is_weak (slice_index_or items h.by []) (slice_index_or items j [])) l (slice_index_or (heights items) h.by 0) (slice_index_or (heights items) j 0)
      (chain_of items) ((filling_of (graph_of items) units).rows h.by)
      (w.base.valid h.by j (suc l) h.before n e) h.holds (heights_fall items h.by j h.before n)
      (λ k f. item_room b h.by k (let i : h.by < j = h.before in omega (arith, i, c)) (let i : h.by < j = h.before in omega (arith, i, n)) f)

  last_room : (r : ℕ) → (filling_of (graph_of items) units).count ≡ r → r ≤ chain_of items
  last_room zero e = omega arith
  last_room (suc p) e =
      let t = (tight_holds (graph_of items) units ample each).top p e in
      let r : p + slice_index_or (heights items) t.number 0 < chain_of items = item_room (suc t.number) t.number p (omega arith) t.within t.is in
      omega (arith, r)

  pub length_is_chain : (filling_of (graph_of items) units).count ≡ chain_of items
  length_is_chain =
      let up : (filling_of (graph_of items) units).count ≤ chain_of items = last_room (filling_of (graph_of items) units).count refl in
      let down : chain_of items ≤ (filling_of (graph_of items) units).count =
      subst (λ z. chain_of z ≤ (filling_of (graph_of items) units).count) (same_items items 0 (filling_of (graph_of items) units).rows)
      (no_shorter (placed_by items (filling_of (graph_of items) units)) (filling_of (graph_of items) units).count (placed_valid items units each)
      (placed_below items units each)) in
      omega (arith, up, down)
