-- The blocks of a machine do not meet, and lead out of all blocks.
use Rattle.std.proofs.Common.{◌≡◌, inl, inr, ℕ, zero, suc, ◌+◌, ◌<◌, refl, sym, ◌∙◌, ap, subst, arith, Bool, true, false, List, [], ◌∷◌, map, length, Some}
use Rattle.std.specs.Prelude.{◌==◌, ◌&&◌, cond, filter, not, slice_get}
use Rattle.std.specs.List.{list_any, slice_index_or}
use Rattle.std.proofs.lemmas.Bool.Decides.{nat_tests}
use Rattle.std.proofs.lemmas.Bool.{false_from_ne_true, not-true}
use Rattle.std.proofs.lemmas.Option.{same_Some}
use Rattle.fs_model.proofs.Booleans.{and_first, and_second, or_other}
use Rattle.fs_model.specs.Machines.{Fsmd, transitions_of}
use Rattle.fs_model.specs.Trees.{Branch, branches_of}
use Rattle.fs_model.specs.SoundMachines.{IsSound, branch_count, is_cutpoint, reaches_cutpoint, first_transition_target}
use Rattle.fs_cut.specs.Paths.{branch_at, target_of}
use Rattle.fs_cut.proofs.Branches.{target_in, some_branch, first_target}
use Rattle.hls_block_filling.specs.BasicBlocks.{all_states, sources, is_only, is_in_block, follows, next_state, block_from, exit_from}
use Rattle.hls_block_filling.specs.BasicBlocks.{is_inner, is_first_of_block}
use Rattle.hls_block_filling.proofs.Among.{Among, in_range, in_joined, some_of, any_of, stays_among}

-- where a block begins
pub first_in_block : (m : Fsmd) (q : ℕ) → is_first_of_block m q ≡ true → is_in_block m q ≡ true
first_in_block m q e = and_first (is_in_block m q) (not (is_inner m q)) e

pub first_outer : (m : Fsmd) (q : ℕ) → is_first_of_block m q ≡ true → is_inner m q ≡ false
first_outer m q e = not-true (is_inner m q) (and_second (is_in_block m q) (not (is_inner m q)) e)

pub is_the_only : (q p : ℕ) (xs : List ℕ) → is_only q xs ≡ true → Among p xs → p ≡ q
is_the_only q p [] e h = absurd h
is_the_only q p (x ∷ []) e (inl f) = let g : x ≡ q = grind (arith, nat_tests) in f ∙ g
is_the_only q p (x ∷ []) e (inr f) = absurd f
is_the_only q p (x ∷ y ∷ rest) e h = absurd (cc e)

only_equal : (q p : ℕ) (xs : List ℕ) → is_only q xs ≡ true → is_only p xs ≡ true → p ≡ q
only_equal q p [] e f = absurd (cc e)
only_equal q p (x ∷ []) e f = let g : x ≡ q = grind (arith, nat_tests) in let h : x ≡ p = grind (arith, nat_tests) in sym h ∙ g
only_equal q p (x ∷ y ∷ rest) e f = absurd (cc e)

pub member : {X : Type 0} (xs : List X) (k : ℕ) (d : X) → k < length xs → Among (slice_index_or xs k d) xs
member [] k d h = absurd (omega arith)
member (x ∷ xs) zero d h = inl refl
member (x ∷ xs) (suc k) d h = inr (member xs k d (omega arith))

some_constant : {X : Type 0} (q : ℕ) (x : X) (xs : List X) → Among x xs → Among q (map (λ _. q) xs)
some_constant q x [] h = absurd h
some_constant q x (y ∷ ys) h = inl refl

module _ (m : Fsmd) where
  -- a branch's state is among the sources of its target
  pub is_source : (q k r : ℕ) → q < length m.states → k < branch_count m q → target_of m q k ≡ r → Among q (sources m r)
  is_source q k r h i e =
      let b = branch_at m q k in
      let here : Among b (branches_of (transitions_of m q)) =
      member (branches_of (transitions_of m q)) k (record { literals = []; assignments = []; target = 0 }) i in
      in_joined (λ x. map (λ c. x) (filter (λ c. c.target == r) (branches_of (transitions_of m x)))) q q (all_states m)
      (in_range 0 (length m.states) q (omega arith) (omega arith))
      (some_constant q b (filter (λ c. c.target == r) (branches_of (transitions_of m q)))
      (stays_among (λ c. c.target == r) b (branches_of (transitions_of m q)) (grind (arith, nat_tests)) here))

  -- a state with such a branch is among the sources
  pub has_source : (q r : ℕ) → q < length m.states → list_any (λ b. b.target == r) (branches_of (transitions_of m q)) ≡ true → Among q (sources m r)
  has_source q r h e =
      let b = some_of (λ (b : Branch). b.target == r) (branches_of (transitions_of m q)) e in
      in_joined (λ x. map (λ c. x) (filter (λ c. c.target == r) (branches_of (transitions_of m x)))) q q (all_states m)
      (in_range 0 (length m.states) q (omega arith) (omega arith))
      (some_constant q b.0 (filter (λ c. c.target == r) (branches_of (transitions_of m q)))
      (stays_among (λ c. c.target == r) b.0 (branches_of (transitions_of m q)) b.2 b.1))

  pub follows_only : (q r : ℕ) → follows m q r ≡ true → is_only q (sources m r) ≡ true
  follows_only q r e = and_second (is_in_block m q && is_in_block m r) (is_only q (sources m r)) e

  pub follows_in_block : (q r : ℕ) → follows m q r ≡ true → is_in_block m q ≡ true
  follows_in_block q r e = and_first (is_in_block m q) (is_in_block m r) (and_first (is_in_block m q && is_in_block m r) (is_only q (sources m r)) e)

  pub follows_on : (q r : ℕ) → follows m q r ≡ true → is_in_block m r ≡ true
  follows_on q r e = and_second (is_in_block m q) (is_in_block m r) (and_first (is_in_block m q && is_in_block m r) (is_only q (sources m r)) e)

  -- where a branch leads into a block, its state is the one before
  pub comes_before : (p q k r : ℕ) → q < length m.states → k < branch_count m q → target_of m q k ≡ r → follows m p r ≡ true → q ≡ p
  comes_before p q k r h i e f = is_the_only p q (sources m r) (follows_only p r f) (is_source q k r h i e)

  -- steps from one state of a block to the next
  abbrev pub Trail : ℕ → ℕ → ℕ → Type 0
  Trail h zero r = h ≡ r
  Trail h (suc j) r = (p : ℕ) × Trail h j p × (p < length m.states) × (follows m p r ≡ true)

  pub inner : (p r : ℕ) → p < length m.states → follows m p r ≡ true → is_inner m r ≡ true
  inner p r h e = any_of (λ x. follows m x r) p (all_states m) (in_range 0 (length m.states) p (omega arith) (omega arith)) e

  outer : (p r : ℕ) → p < length m.states → follows m p r ≡ true → is_inner m r ≡ false → ⊥
  outer p r h e f = let g : is_inner m r ≡ true = inner p r h e in cc (sym f ∙ g)

  -- two blocks have no state in common
  pub apart : (j i h k r : ℕ) → is_inner m h ≡ false → is_inner m k ≡ false → Trail h j r → Trail k i r → (h ≡ k) × (j ≡ i)
  apart zero zero h k r a b x y = (x ∙ sym y, refl)
  apart zero (suc i) h k r a b x y = absurd (outer y.0 h y.2 (subst (λ z. follows m y.0 z ≡ true) (sym x) y.3) a)
  apart (suc j) zero h k r a b x y = absurd (outer x.0 k x.2 (subst (λ z. follows m x.0 z ≡ true) (sym y) x.3) b)
  apart (suc j) (suc i) h k r a b x y =
      let e : y.0 ≡ x.0 = only_equal x.0 y.0 (sources m r) (follows_only x.0 r x.3) (follows_only y.0 r y.3) in
      let d = apart j i h k x.0 a b x.1 (subst (λ z. Trail k i z) e y.1) in
      (d.0, ap suc d.1)

  module _ (sound : IsSound m) where
    pub next_in : (q : ℕ) → q < length m.states → next_state m q < length m.states
    next_in q h = target_in m sound q 0 (some_branch m sound q h)

    walk_step : (n h i j q r : ℕ) (t : Bool) → follows m q (next_state m q) ≡ t → q < length m.states → Trail h i q
        → slice_get (cond t (block_from m n (next_state m q)) []) j ≡ Some r
        → (Trail h (suc i) (next_state m q) → slice_get (block_from m n (next_state m q)) j ≡ Some r → Trail h (suc i + j) r) → Trail h (suc i + j) r
    walk_step n h i j q r true e lt w g next_one = next_one (q, w, lt, e) g
    walk_step n h i j q r false e lt w g next_one = absurd (cc g)

    pub walk : (n h i j q r : ℕ) → q < length m.states → Trail h i q → slice_get (block_from m n q) j ≡ Some r → Trail h (i + j) r
    walk zero h i zero q r lt w g = subst (λ z. Trail h z r) (let e : i ≡ i + 0 = omega arith in e) (subst (λ z. Trail h i z) (same_Some q r g) w)
    walk zero h i (suc j) q r lt w g = absurd (cc g)
    walk (suc n) h i zero q r lt w g = subst (λ z. Trail h z r) (let e : i ≡ i + 0 = omega arith in e) (subst (λ z. Trail h i z) (same_Some q r g) w)
    walk (suc n) h i (suc j) q r lt w g =
        subst (λ z. Trail h z r) (let e : suc i + j ≡ i + suc j = omega arith in e)
        (walk_step n h i j q r (follows m q (next_state m q)) refl lt w g (λ v f. walk n h (suc i) j (next_state m q) r (next_in q lt) v f))

    in_step : (n j q r : ℕ) (t : Bool) → follows m q (next_state m q) ≡ t → slice_get (cond t (block_from m n (next_state m q)) []) j ≡ Some r
        → (slice_get (block_from m n (next_state m q)) j ≡ Some r → r < length m.states) → r < length m.states
    in_step n j q r true e g next_one = next_one g
    in_step n j q r false e g next_one = absurd (cc g)

    pub block_in : (n j q r : ℕ) → q < length m.states → slice_get (block_from m n q) j ≡ Some r → r < length m.states
    block_in zero zero q r lt g = subst (λ z. z < length m.states) (same_Some q r g) lt
    block_in zero (suc j) q r lt g = absurd (cc g)
    block_in (suc n) zero q r lt g = subst (λ z. z < length m.states) (same_Some q r g) lt
    block_in (suc n) (suc j) q r lt g = in_step n j q r (follows m q (next_state m q)) refl g (λ f. block_in n j (next_state m q) r (next_in q lt) f)

    pub trail_in_block : (j h r : ℕ) → is_in_block m h ≡ true → Trail h j r → is_in_block m r ≡ true
    trail_in_block zero h r e w = subst (λ z. is_in_block m z ≡ true) w e
    trail_in_block (suc j) h r e w = follows_on w.0 r w.3

    -- a state outside all blocks, or the first of one
    abbrev pub Station : ℕ → Type 0
    Station q = (q < length m.states) × (is_inner m q ≡ false)

    -- where a branch leads into a block, it leaves the state before
    pub enters : (q k r : ℕ) → q < length m.states → k < branch_count m q → target_of m q k ≡ r → follows m q r ≡ false → is_inner m r ≡ false
    enters q k r h i e f =
        false_from_ne_true (is_inner m r)
        (λ g. let w = some_of (λ p. follows m p r) (all_states m) g in let s : q ≡ w.0 = comes_before w.0 q k r h i e w.2 in
        let u : follows m q r ≡ true = subst (λ z. follows m z r ≡ true) (sym s) w.2 in cc (sym f ∙ u))

    -- the same of a state that is in no block
    pub enters_from : (q r : ℕ) → is_in_block m q ≡ false → Among q (sources m r) → is_inner m r ≡ false
    enters_from q r e f =
        false_from_ne_true (is_inner m r)
        (λ g. let w = some_of (λ p. follows m p r) (all_states m) g in let s : q ≡ w.0 = is_the_only w.0 q (sources m r) (follows_only w.0 r w.2) f in
        let u : is_in_block m q ≡ true = subst (λ z. is_in_block m z ≡ true) (sym s) (follows_in_block w.0 r w.2) in cc (sym e ∙ u))

    exit_step : (n q : ℕ) (t : Bool) → follows m q (next_state m q) ≡ t → q < length m.states
        → (follows m q (next_state m q) ≡ true → Station (exit_from m n (next_state m q))) → Station (cond t (exit_from m n (next_state m q)) (next_state m q))
    exit_step n q true e h f = f e
    exit_step n q false e h f = (next_in q h, enters q 0 (next_state m q) h (some_branch m sound q h) refl e)

    pub leaves_block : (n q : ℕ) → q < length m.states → is_in_block m q ≡ true → reaches_cutpoint m n q ≡ true → Station (exit_from m n q)
    leaves_block zero q h e r = absurd (let f : is_cutpoint m q ≡ false = not-true (is_cutpoint m q) e in cc (sym f ∙ r))
    leaves_block (suc n) q h e r =
        let c : is_cutpoint m q ≡ false = not-true (is_cutpoint m q) e in
        exit_step n q (follows m q (next_state m q)) refl h
        (λ f. leaves_block n (next_state m q) (next_in q h) (follows_on q (next_state m q) f)
        (subst (λ z. reaches_cutpoint m n z ≡ true) (first_target m sound q h c)
        (or_other (is_cutpoint m q) (reaches_cutpoint m n (first_transition_target (transitions_of m q))) c r)))
