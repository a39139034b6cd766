-- Heights that are known are the heights of the items.
use Rattle.std.proofs.Common.{◌≡◌, ℕ, zero, suc, ◌+◌, ◌-◌, ◌<◌, ◌≤◌, List, [], ◌∷◌, refl, sym, ◌∙◌, ap, ap₂, subst, arith, Bool, true, false, length}
use Rattle.std.specs.Prelude.{◌≢◌, ◌==◌, nat_lt, cond, max, slice_get}
use Rattle.std.specs.List.{slice_index_or}
use Rattle.std.proofs.lemmas.Bool.Decides.{nat_tests}
use Rattle.std.proofs.Math.ListN.{set}
use Rattle.std.proofs.lemmas.List.{get_or-set_same, get_or-set_other}
use Rattle.hls_block_filling.specs.Items.{Item}
use Rattle.hls_block_filling.specs.Heights.{strict_edges_through, height_over, heights}
use Rattle.hls_block_filling.proofs.Lists.{heights_fall}
use Rattle.hls_block_filling.specs.declared.effects.Effects.{Effects}
use Rattle.hls_block_filling.specs.declared.effects.Edge.{Edge}
use Rattle.hls_block_filling.specs.declared.effects.Edge.TheVariants.{Apart, Weak, Strict}
use Rattle.hls_block_filling.specs.Profiles.{strict_in, weak_in, through_edge, edge_of_effects, height_upto}
use Rattle.hls_block_filling.specs.KnownHeights.{AreHeights, AreLowHeights}

pub through_by : (e : Edge) (h : ℕ) → through_edge e h ≡ cond (strict_in e) (suc h) (cond (weak_in e) h 0)
through_by Apart h = refl
through_by Weak h = refl
through_by Strict h = refl

over_bound : (a : Item) (items : List Item) (hs : List ℕ) (most : ℕ)
    → ((j : ℕ) → j < length items → strict_edges_through a (slice_index_or items j []) (slice_index_or hs j 0) ≤ most) → height_over a items hs ≤ most
over_bound a [] hs most w = omega arith
over_bound a (b ∷ bs) [] most w = omega arith
over_bound a (b ∷ bs) (h ∷ hs) most w = omega (arith, w 0 (omega arith), over_bound a bs hs most (λ j p. w (suc j) (omega (arith, p))))

-- an item is no higher than the highest walk through one behind it
bounded : (items : List Item) (i most : ℕ) → i < length items
    → ((j : ℕ) → i < j → j < length items → strict_edges_through (slice_index_or items i []) (slice_index_or items j [])
    (slice_index_or (heights items) j 0) ≤ most)
    → slice_index_or (heights items) i 0 ≤ most
bounded [] i most h w = absurd (omega (arith, h))
bounded (a ∷ items) zero most h w = over_bound a items (heights items) most (λ j p. w (suc j) (omega arith) (omega (arith, p)))
bounded (a ∷ items) (suc i) most h w = bounded items i most (omega (arith, h)) (λ j p q. w (suc j) (omega (arith, p)) (omega (arith, q)))

none_upto : (effects : List Effects) (known : List ℕ) (i n : ℕ) → n ≤ i + 1 → height_upto effects known i n ≡ 0
none_upto effects known i zero h = refl
none_upto effects known i (suc n) h = let e : nat_lt i n ≡ false = grind (arith, nat_tests) in
    rw e (omega (arith, none_upto effects known i n (omega (arith, h))))

pub first_upto : (effects : List Effects) (known : List ℕ) (i : ℕ) → 0 ≡ height_upto effects known i (i + 1)
first_upto effects known i = sym (none_upto effects known i (i + 1) (omega arith))

pub more_upto : (effects : List Effects) (known : List ℕ) (i n best : ℕ) → i < n → best ≡ height_upto effects known i n
    → max best (through_edge (edge_of_effects (slice_get effects i) (slice_get effects n)) (slice_index_or known n 0)) ≡ height_upto effects known i (n + 1)
more_upto effects known i n best h e = let l : nat_lt i n ≡ true = grind (arith, nat_tests) in let s : n + 1 ≡ suc n = omega arith in rw s (rw l (rw e refl))

pub low_upto : (e : Edge) (r best h i j n : ℕ) → r ≡ max best (through_edge e h) → best + i < n → h + j < n → i < j → r + i < n
low_upto Apart r best h i j n e p q l = omega (arith, e, p, q, l)
low_upto Weak r best h i j n e p q l = omega (arith, e, p, q, l)
low_upto Strict r best h i j n e p q l = omega (arith, e, p, q, l)

-- ---- no height is known yet
pub none_known : (effects : List Effects) (known : List ℕ) → AreHeights effects (length effects - 0) known
none_known effects known = record { known = λ j p q. absurd (omega (arith, p, q)) }

pub none_low : (n : ℕ) (known : List ℕ) → AreLowHeights n (n - 0) known
none_low n known = record { low = λ j p q. absurd (omega (arith, p, q)) }

-- ---- one height more is known
upto_step : (effects : List Effects) (known : List ℕ) (i j n v : ℕ) (t : Bool) → nat_lt j n ≡ t → i ≤ j
    → height_upto effects (set known i v) j n ≡ height_upto effects known j n
    → max (height_upto effects (set known i v) j n)
    (cond t (through_edge (edge_of_effects (slice_get effects j) (slice_get effects n)) (slice_index_or (set known i v) n 0)) 0)
    ≡ max (height_upto effects known j n) (cond t (through_edge (edge_of_effects (slice_get effects j) (slice_get effects n)) (slice_index_or known n 0)) 0)
upto_step effects known i j n v true e h w =
    let d : n ≢ i = (let l : j < n = grind (arith, nat_tests) in omega (arith, l, h)) in
    ap₂ (λ (x y : ℕ). max x (through_edge (edge_of_effects (slice_get effects j) (slice_get effects n)) y)) w (get_or-set_other known i n v 0 d)
upto_step effects known i j n v false e h w = ap (λ (x : ℕ). max x 0) w

set_upto : (effects : List Effects) (known : List ℕ) (i j n v : ℕ) → i ≤ j → height_upto effects (set known i v) j n ≡ height_upto effects known j n
set_upto effects known i j zero v h = refl
set_upto effects known i j (suc n) v h = upto_step effects known i j n v (nat_lt j n) refl h (set_upto effects known i j n v h)

known_step : (effects : List Effects) (known : List ℕ) (item v j : ℕ) (t : Bool) → (j == item) ≡ t → item < length known
    → v ≡ height_upto effects known item (length effects)
    → AreHeights effects (item + 1) known → item ≤ j → j < length effects
    → slice_index_or (set known item v) j 0 ≡ height_upto effects (set known item v) j (length effects)
known_step effects known item v j true e h f a p q =
    let c : item ≡ j = grind (arith, nat_tests) in
    subst (λ (z : ℕ). slice_index_or (set known item v) z 0 ≡ height_upto effects (set known item v) z (length effects)) c
    (get_or-set_same known item v 0 h ∙ f ∙ sym (set_upto effects known item item (length effects) v (omega arith)))
known_step effects known item v j false e h f a p q =
    let d : j ≢ item = grind (arith, nat_tests) in
    get_or-set_other known item j v 0 d ∙ a.known j (omega (arith, d, p)) q ∙ sym (set_upto effects known item j (length effects) v p)

pub set_known : (effects : List Effects) (known : List ℕ) (item v : ℕ) → item < length known → v ≡ height_upto effects known item (length effects)
    → AreHeights effects (item + 1) known → AreHeights effects item (set known item v)
set_known effects known item v h f a = record { known = λ j p q. known_step effects known item v j (j == item) refl h f a p q }

low_step : (known : List ℕ) (n item v j : ℕ) (t : Bool) → (j == item) ≡ t → item < length known → v + item < n → AreLowHeights n (item + 1) known → item ≤ j
    → j < n → slice_index_or (set known item v) j 0 + j < n
low_step known n item v j true e h f a p q =
    let c : item ≡ j = grind (arith, nat_tests) in
    let g : slice_index_or (set known item v) item 0 ≡ v = get_or-set_same known item v 0 h in
    subst (λ (z : ℕ). slice_index_or (set known item v) z 0 + z < n) c (omega (arith, g, f))
low_step known n item v j false e h f a p q =
    let d : j ≢ item = grind (arith, nat_tests) in
    omega (arith, get_or-set_other known item j v 0 d, a.low j (omega (arith, d, p)) q)

pub set_low : (known : List ℕ) (n item v : ℕ) → item < length known → v + item < n → AreLowHeights n (item + 1) known → AreLowHeights n item (set known item v)
set_low known n item v h f a = record { low = λ j p q. low_step known n item v j (j == item) refl h f a p q }

module _ (effects : List Effects) (known : List ℕ) (i : ℕ) where
  at : ℕ → ℕ
  at j = through_edge (edge_of_effects (slice_get effects i) (slice_get effects j)) (slice_index_or known j 0)

  reach_last : (n j : ℕ) (t : Bool) → nat_lt j n ≡ t → i < j → j < suc n → (j < n → at j ≤ height_upto effects known i n)
      → at j ≤ max (height_upto effects known i n) (at n)
  reach_last n j true e p q w = let r : j < n = grind (arith, nat_tests) in omega (arith, w r)
  reach_last n j false e p q w = let r : j ≡ n = (let d : n ≤ j = grind (arith, nat_tests) in omega (arith, d, q)) in rw r (omega arith)

  reach_step : (n j : ℕ) (t : Bool) → nat_lt i n ≡ t → i < j → j < suc n → (j < n → at j ≤ height_upto effects known i n)
      → at j ≤ max (height_upto effects known i n) (cond t (at n) 0)
  reach_step n j true e p q w = reach_last n j (nat_lt j n) refl p q w
  reach_step n j false e p q w = absurd (let d : n ≤ i = grind (arith, nat_tests) in omega (arith, p, q, d))

  reaches : (n j : ℕ) → i < j → j < n → at j ≤ height_upto effects known i n
  unfolding at
  reaches zero j p q = absurd (omega (arith, q))
  reaches (suc n) j p q = reach_step n j (nat_lt i n) refl p q (λ r. reaches n j p r)

  most_step : (n most : ℕ) (t : Bool) → nat_lt i n ≡ t → height_upto effects known i n ≤ most → (i < n → at n ≤ most)
      → max (height_upto effects known i n) (cond t (at n) 0) ≤ most
  most_step n most true e h w = let p : i < n = grind (arith, nat_tests) in omega (arith, h, w p)
  most_step n most false e h w = omega (arith, h)

  no_more : (n most : ℕ) → ((j : ℕ) → i < j → j < n → at j ≤ most) → height_upto effects known i n ≤ most
  unfolding at
  no_more zero most w = omega arith
  no_more (suc n) most w = most_step n most (nat_lt i n) refl (no_more n most (λ j p q. w j p (omega (arith, q)))) (λ p. w n p (omega arith))

-- the edges between items, by their effects
abbrev pub SameEdges : List Effects → List Item → Type 0
SameEdges effects items = (i j h : ℕ) → i < length items → j < length items
    → through_edge (edge_of_effects (slice_get effects i) (slice_get effects j)) h
    ≡ strict_edges_through (slice_index_or items i []) (slice_index_or items j []) h

module _ (effects : List Effects) (items : List Item) (known : List ℕ) (count : length effects ≡ length items) (edges : SameEdges effects items)
    (are : AreHeights effects 0 known) where
  -- from the last item to the first
  height_from : (k i : ℕ) → i < length items → length items ≤ i + k → slice_index_or known i 0 ≡ slice_index_or (heights items) i 0
  unfolding at
  height_from zero i h l = absurd (omega (arith, h, l))
  height_from (suc k) i h l =
      let walk : (j : ℕ) → i < j → j < length items
      → at effects known i j ≡ strict_edges_through (slice_index_or items i []) (slice_index_or items j []) (slice_index_or (heights items) j 0) =
      (λ j p q. edges i j (slice_index_or known j 0) h q ∙ ap (strict_edges_through (slice_index_or items i []) (slice_index_or items j []))
      (height_from k j q (omega (arith, l, p)))) in
      let e : slice_index_or known i 0 ≡ height_upto effects known i (length effects) = are.known i (omega arith) (omega (arith, h, count)) in
      let up : height_upto effects known i (length effects) ≤ slice_index_or (heights items) i 0 =
      no_more effects known i (length effects) (slice_index_or (heights items) i 0)
      (λ j p q. (let r : j < length items = omega (arith, q, count) in omega (arith, walk j p r, heights_fall items i j p r))) in
      let down : slice_index_or (heights items) i 0 ≤ height_upto effects known i (length effects) =
      bounded items i (height_upto effects known i (length effects)) h
      (λ j p q. (let r : j < length effects = omega (arith, q, count) in omega (arith, walk j p q, reaches effects known i (length effects) j p r))) in
      omega (arith, e, up, down)

  pub height_is : (i : ℕ) → i < length items → slice_index_or known i 0 ≡ slice_index_or (heights items) i 0
  height_is i h = height_from (length items) i h (omega arith)
