-- The counts of those that wait, from a row to the next.
use Rattle.std.proofs.Common.{◌≡◌, ℕ, zero, suc, ◌+◌, ◌<◌, ◌≤◌, List, refl, sym, ◌∙◌, ap, subst, arith, Bool, true, false, Option, Some, None, length}
use Rattle.std.specs.Prelude.{◌==◌, not, ◌&&◌, nat_lt, cond}
use Rattle.std.specs.List.{slice_index_or}
use Rattle.std.proofs.lemmas.Bool.Decides.{nat_tests}
use Rattle.hls_block_filling.specs.declared.profiles.Profile.{Profile}
use Rattle.hls_block_filling.specs.declared.effects.Edge.{Edge}
use Rattle.hls_block_filling.specs.declared.effects.Edge.TheVariants.{Apart, Weak, Strict}
use Rattle.hls_block_filling.specs.Filling.{ItemGraph, Rows, is_before, is_by, is_in, leaves_row_open}
use Rattle.hls_block_filling.specs.Profiles.{edge_at, strict_in, weak_in, graph_in}
use Rattle.hls_block_filling.specs.WaitingItems.{AreWaiting, AreReleased, AreTurned, AreLow, waits_below, waits_turned, holds_back, same_edge}

none_turned : (g : ItemGraph) (rows : Rows) (r j n : ℕ) → waits_turned g rows r 0 j n ≡ waits_below g rows r j n
none_turned g rows r j zero = refl
none_turned g rows r j (suc n) = let e : nat_lt n 0 ≡ false = grind (arith, nat_tests) in rw e (omega (arith, none_turned g rows r j n))

all_turned : (g : ItemGraph) (rows : Rows) (r m j n : ℕ) → n ≤ m → waits_turned g rows r m j n ≡ waits_below g rows (suc r) j n
all_turned g rows r m j zero h = refl
all_turned g rows r m j (suc n) h = let e : nat_lt n m ≡ true = grind (arith, nat_tests) in rw e (omega (arith, all_turned g rows r m j n (omega (arith, h))))

pub before_turn : (g : ItemGraph) (rows : Rows) (r : ℕ) (waits : List ℕ) → AreWaiting g rows r waits → AreTurned g rows r 0 waits
before_turn g rows r waits w = record { counted = λ j h. w.counted j h ∙ sym (none_turned g rows r j j) }

pub after_turn : (g : ItemGraph) (rows : Rows) (r : ℕ) (waits : List ℕ) → AreTurned g rows r g.count waits → AreWaiting g rows (suc r) waits
after_turn g rows r waits w = record { counted = λ j h. w.counted j h ∙ all_turned g rows r g.count j j (omega (arith, h)) }

apart_one : (b : Bool) → ◌≡◌ {A = ℕ} (0 + cond b 0 0) 0
apart_one true = refl
apart_one false = refl

weak_one : (a x y : Bool) → x ≡ false → y ≡ false → ◌≡◌ {A = ℕ} (cond (not y) 0 1 + cond a 0 0) (cond (not x) 0 1)
weak_one a x y e f = grind (arith, e, f)

strict_one : (a x y : Bool) → y ≡ true → x ≡ not a → ◌≡◌ {A = ℕ} (cond y 0 1 + cond a 1 0) (cond x 0 1)
strict_one a x y e f = grind (arith, e, f)

turn_last : (p q one : ℕ) (x y a b d f : Bool) → a ≡ false → b ≡ true → d ≡ true → f ≡ false → p + cond a one 0 ≡ q
    → ◌≡◌ {A = ℕ} (cond x 0 1 + one) (cond y 0 1) → p + cond (cond d x y) 0 1 + cond b one 0 ≡ q + cond (cond f x y) 0 1
turn_last p q one x y false true true false e g h k w o = omega (arith, w, o)
turn_last p q one x y true b d f e g h k w o = absurd (cc e)
turn_last p q one x y false false d f e g h k w o = absurd (cc g)
turn_last p q one x y false true false f e g h k w o = absurd (cc h)
turn_last p q one x y false true true true e g h k w o = absurd (cc k)

turn_mid : (p q one : ℕ) (x y a b d f : Bool) → b ≡ a → d ≡ f → p + cond a one 0 ≡ q → p + cond (cond d x y) 0 1 + cond b one 0 ≡ q + cond (cond f x y) 0 1
turn_mid p q one x y true b d f e g h = rw e (rw g (omega (arith, h)))
turn_mid p q one x y false b d f e g h = rw e (rw g (omega (arith, h)))

-- what an edge from a placed item lets, in this row and in the next
turned_one : (e : Edge) (r : ℕ) (o : Option ℕ) → ((k : ℕ) → o ≡ Some k → k ≤ r)
    → ◌≡◌ {A = ℕ}
    (cond (cond (strict_in e) (is_before (suc r) o) (cond (weak_in e) (is_by (suc r) o) true)) 0 1 + cond (is_in r o) (cond (same_edge e Strict) 1 0) 0)
    (cond (cond (strict_in e) (is_before r o) (cond (weak_in e) (is_by r o) true)) 0 1)
turned_one Apart r None h = refl
turned_one Weak r None h = refl
turned_one Strict r None h = refl
turned_one Apart r (Some k) h = apart_one (k == r)
turned_one Weak r (Some k) h = let i : k ≤ r = h k refl in
    weak_one (k == r) (nat_lt r k) (nat_lt (suc r) k) (grind (arith, nat_tests)) (grind (arith, nat_tests))
turned_one Strict r (Some k) h = let i : k ≤ r = h k refl in
    strict_one (k == r) (nat_lt k r) (nat_lt k (suc r)) (grind (arith, nat_tests)) (grind (arith, nat_tests))

module _ (table : List Profile) (rows : Rows) (r m j : ℕ) (low : (k : ℕ) → rows m ≡ Some k → k ≤ r) where
  abbrev E : Edge
  E = edge_at table m j

  -- one for an item of this row with a strict edge
  abbrev One : ℕ
  One = cond (is_in r (rows m)) (cond (same_edge E Strict) 1 0) 0

  turn_step : (n : ℕ) (t : Bool) → (n == m) ≡ t → waits_turned (graph_in table) rows r (suc m) j n + cond (nat_lt m n) One 0
      ≡ waits_turned (graph_in table) rows r m j n
      → waits_turned (graph_in table) rows r (suc m) j (suc n) + cond (nat_lt m (suc n)) One 0 ≡ waits_turned (graph_in table) rows r m j (suc n)
  turn_step n true e h =
      let c : n ≡ m = grind (arith, nat_tests) in
      let a : nat_lt m n ≡ false = grind (arith, nat_tests) in
      let b : nat_lt m (suc n) ≡ true = grind (arith, nat_tests) in
      let d : nat_lt n (suc m) ≡ true = grind (arith, nat_tests) in
      let f : nat_lt n m ≡ false = grind (arith, nat_tests) in
      let one : ◌≡◌ {A = ℕ} (cond (leaves_row_open (graph_in table) rows (suc r) n j) 0 1 + One) (cond (leaves_row_open (graph_in table) rows r n j) 0 1) =
      subst (λ z. ◌≡◌ {A = ℕ} (cond (leaves_row_open (graph_in table) rows (suc r) z j) 0 1 + One) (cond (leaves_row_open (graph_in table) rows r z j) 0 1))
      (sym c)
      (turned_one E r (rows m) low) in
      turn_last _ _ One (leaves_row_open (graph_in table) rows (suc r) n j) (leaves_row_open (graph_in table) rows r n j) (nat_lt m n) (nat_lt m (suc n))
      (nat_lt n (suc m))
      (nat_lt n m) a b d f h one
  turn_step n false e h =
      let a : nat_lt m (suc n) ≡ nat_lt m n = grind (arith, nat_tests) in
      let d : nat_lt n (suc m) ≡ nat_lt n m = grind (arith, nat_tests) in
      turn_mid _ _ One (leaves_row_open (graph_in table) rows (suc r) n j) (leaves_row_open (graph_in table) rows r n j) (nat_lt m n) (nat_lt m (suc n))
      (nat_lt n (suc m))
      (nat_lt n m) a d h

  turn_waits : (n : ℕ) → waits_turned (graph_in table) rows r (suc m) j n + cond (nat_lt m n) One 0 ≡ waits_turned (graph_in table) rows r m j n
  turn_waits zero = let f : nat_lt m 0 ≡ false = grind (arith, nat_tests) in rw f (omega arith)
  turn_waits (suc n) = turn_step n (n == m) refl (turn_waits n)

-- an item of this row is released
one_by : (a b : Bool) → a ≡ true → (c : Bool) → ◌≡◌ {A = ℕ} (cond b (cond a (cond c 1 0) 0) 0) (cond (b && c) 1 0)
one_by true true e c = refl
one_by true false e c = refl
one_by false b e c = absurd (cc e)

none_by : (a b c : Bool) → a ≡ false → ◌≡◌ {A = ℕ} (cond b (cond a (cond c 1 0) 0) 0) 0
none_by true b c e = absurd (cc e)
none_by false true c e = refl
none_by false false c e = refl

pub turned_on : (table : List Profile) (rows : Rows) (r m : ℕ) (old new : List ℕ) → AreLow (graph_in table) rows r → m < length table
    → length old ≡ length table → is_in r (rows m) ≡ true → AreTurned (graph_in table) rows r m old → AreReleased table Strict m old new
    → AreTurned (graph_in table) rows r (suc m) new
turned_on table rows r m old new l i len e w d = record {
  counted = λ j h. (
      let x = d.waits j (omega (arith, h, len)) in
      let y = turn_waits table rows r m j (λ k f. l.low m k i f) j in
      let z = w.counted j h in
      let b = one_by (is_in r (rows m)) (nat_lt m j) e (same_edge (edge_at table m j) Strict) in
      omega (arith, x, y, z, b));
}

pub turned_off : (table : List Profile) (rows : Rows) (r m : ℕ) (waits : List ℕ) → AreLow (graph_in table) rows r → m < length table → is_in r (rows m) ≡ false
    → AreTurned (graph_in table) rows r m waits → AreTurned (graph_in table) rows r (suc m) waits
turned_off table rows r m waits l i e w = record {
  counted = λ j h. (
      let y = turn_waits table rows r m j (λ k f. l.low m k i f) j in
      let z = w.counted j h in
      let b = none_by (is_in r (rows m)) (nat_lt m j) (same_edge (edge_at table m j) Strict) e in
      omega (arith, y, z, b));
}

pub some_turn : (table : List Profile) (rows : Rows) (r m j : ℕ) (old : List ℕ) → AreLow (graph_in table) rows r → m < length table → is_in r (rows m) ≡ true
    → AreTurned (graph_in table) rows r m old → j < length table → holds_back table Strict m j ≡ true → 1 ≤ slice_index_or old j 0
some_turn table rows r m j old l i e w h f =
    let y = turn_waits table rows r m j (λ k g. l.low m k i g) j in
    let z = w.counted j h in
    let b = one_by (is_in r (rows m)) (nat_lt m j) e (same_edge (edge_at table m j) Strict) in
    let c : ◌≡◌ {A = ℕ} (cond (nat_lt m j && same_edge (edge_at table m j) Strict) 1 0) 1 = ap (λ t. cond {A = ℕ} t 1 0) f in
    omega (arith, y, z, b, c)
