-- A run is followed by induction on what is left of it, and then on a weight while the other side moves alone.
use Rattle.std.proofs.Common.{ℕ, zero, suc, ◌<◌, arith}
use Rattle.fs_model.specs.Stores.{Store}
use Rattle.fs_cut.specs.Paths.{Point}

-- from a point and a store, so many steps are left, and they end with a store
abbrev pub Rest : Type 1
Rest = Point → ℕ → Store → Store → Type 0

-- where the run that is followed ends with t, the other has a run that ends alike
abbrev pub Answer : Rest → (Store → Store → Type 0) → Point → Store → Store → Type 0
Answer B Same Q u t = (k : ℕ) × (v : Store) × B Q k u v × Same t v

-- a run from the first place goes on at the second, with fewer steps
abbrev pub Goes : Rest → Point → Store → Point → Store → Type 0
Goes A P s P' s' = (n : ℕ) (t : Store) → A P n s t → (k : ℕ) × (k < n) × A P' k s' t

-- a run from the second place is one from the first
abbrev pub Comes : Rest → Point → Store → Point → Store → Type 0
Comes B Q u Q' u' = (n : ℕ) (t : Store) → B Q' n u' t → (k : ℕ) × B Q k u t

module _ (A B : Rest) (Same : Store → Store → Type 0) (R : ℕ → Point → Store → Point → Store → Type 0) where
  pub data Move (w : ℕ) (P : Point) (s : Store) (Q : Point) (u : Store) : Type 0 where
    ends : ((n : ℕ) (t : Store) → A P n s t → Answer B Same Q u t) → Move w P s Q u
    leads : (v : ℕ) (P' : Point) (s' : Store) (Q' : Point) (u' : Store) → Goes A P s P' s' → Comes B Q u Q' u' → R v P' s' Q' u' → Move w P s Q u
    waits : (v : ℕ) (Q' : Point) (u' : Store) → v < w → Comes B Q u Q' u' → R v P s Q' u' → Move w P s Q u

  came : (Q Q' : Point) (u u' t : Store) → Comes B Q u Q' u' → Answer B Same Q' u' t → Answer B Same Q u t
  came Q Q' u u' t c a = let b = c a.0 a.1 a.2 in (b.0, a.1, b.1, a.3)

  -- runs of which j steps are left can be followed from each pair that is related
  abbrev Followed : ℕ → Type 0
  Followed j = (w : ℕ) (P : Point) (s : Store) (Q : Point) (u : Store) → R w P s Q u → (t : Store) → A P j s t → Answer B Same Q u t

  one_move : (w k : ℕ) (P : Point) (s : Store) (Q : Point) (u t : Store) → ((j : ℕ) → j < k → Followed j)
      → ((v : ℕ) → v < w → (Q' : Point) (u' : Store) → R v P s Q' u' → Answer B Same Q' u' t) → A P k s t → Move w P s Q u → Answer B Same Q u t
  one_move w k P s Q u t ih again a (ends f) = f k t a
  one_move w k P s Q u t ih again a (leads v P' s' Q' u' g c r) = let d = g k t a in came Q Q' u u' t c (ih d.0 d.1 v P' s' Q' u' r t d.2)
  one_move w k P s Q u t ih again a (waits v Q' u' lt c r) = came Q Q' u u' t c (again v lt Q' u' r)

  module _ (moves : (w : ℕ) (P : Point) (s : Store) (Q : Point) (u : Store) → R w P s Q u → Move w P s Q u) where
    by_weight : (k : ℕ) → ((j : ℕ) → j < k → Followed j) → (b w : ℕ) → w < b → (P : Point) (s : Store) (Q : Point) (u : Store) → R w P s Q u → (t : Store)
        → A P k s t → Answer B Same Q u t
    by_weight k ih zero w h P s Q u r t a = absurd (omega arith)
    by_weight k ih (suc b) w h P s Q u r t a = one_move w k P s Q u t ih (λ v lt Q' u' r'. by_weight k ih b v (omega arith) P s Q' u' r' t a) a
        (moves w P s Q u r)

    below : (n j : ℕ) → j < n → Followed j
    below zero j h = absurd (omega arith)
    below (suc n) j h = λ w P s Q u r t a. by_weight j (λ i lt. below n i (omega arith)) (suc w) w (omega arith) P s Q u r t a

    pub follow : (k : ℕ) → Followed k
    follow k = below (suc k) k (omega arith)
