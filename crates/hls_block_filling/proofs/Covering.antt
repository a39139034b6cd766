-- Each state with one way on, but the reset state, stands in exactly one block, and blocks are as long as can be.
use Rattle.std.proofs.Common.{◌≡◌, inl, inr, ℕ, zero, suc, ◌+◌, ◌<◌, ◌≤◌, refl, sym, ◌∙◌, ap, subst, arith, Bool, true, false, List, [], ◌∷◌, map, length, Some}
use Rattle.std.specs.Prelude.{◌==◌, ◌&&◌, not, cond, filter, slice_get}
use Rattle.std.specs.List.{slice_index_or}
use Rattle.std.proofs.lemmas.Bool.Decides.{nat_tests}
use Rattle.std.proofs.lemmas.Bool.{and_from, false_from_ne_true, not-true}
use Rattle.std.proofs.lemmas.Option.{same_Some}
use Rattle.fs_model.proofs.Booleans.{and_second, or_other}
use Rattle.fs_model.specs.Machines.{Fsmd, transitions_of}
use Rattle.fs_model.specs.Trees.{Branch, branches_of}
use Rattle.fs_model.specs.SoundMachines.{IsSound, is_cutpoint, reaches_cutpoint, first_transition_target}
use Rattle.fs_cut.proofs.Branches.{first_target, few}
use Rattle.hls_block_filling.specs.BasicBlocks.{all_states, sources, is_only, is_in_block, follows, next_state, block_from, basic_block_at, is_inner}
use Rattle.hls_block_filling.specs.BasicBlocks.{is_first_of_block, StandsInBlock}
use Rattle.hls_block_filling.proofs.Among.{Among, joined_from, passes_test, was_among, some_of, range_within}
use Rattle.hls_block_filling.proofs.Trails.{Trail, apart, inner, walk, follows_in_block, first_outer}

pub only_among : (p : ℕ) (xs : List ℕ) → is_only p xs ≡ true → Among p xs
only_among p [] e = absurd (cc e)
only_among p (x ∷ []) e = let g : p ≡ x = grind (arith, nat_tests) in inl g
only_among p (x ∷ y ∷ rest) e = absurd (cc e)

pub constant_is : {X : Type 0} (q p : ℕ) (xs : List X) → Among p (map (λ _. q) xs) → (p ≡ q) × (x : X) × Among x xs
constant_is q p [] h = absurd h
constant_is q p (x ∷ xs) (inl e) = (e, x, inl refl)
constant_is q p (x ∷ xs) (inr w) = let d = constant_is q p xs w in (d.0, d.1, inr d.2)

one_branch : (bs : List Branch) (b : Branch) → length bs ≤ 1 → Among b bs
    → (slice_index_or bs 0 (record { literals = []; assignments = []; target = 0 })).target ≡ b.target
one_branch [] b h w = absurd w
one_branch (c ∷ []) b h (inl e) = ap (λ (x : Branch). x.target) (sym e)
one_branch (c ∷ []) b h (inr w) = absurd w
one_branch (c ∷ d ∷ bs) b h w = absurd (omega (arith, h))

past_end : (xs : List ℕ) (k r : ℕ) → length xs ≡ k → slice_get xs k ≡ Some r → ⊥
past_end [] k r e g = cc g
past_end (x ∷ xs) zero r e g = omega (arith, e)
past_end (x ∷ xs) (suc k) r e g = past_end xs k r (omega (arith, e)) g

module _ (m : Fsmd) where
  next_is : (p r : ℕ) → follows m p r ≡ true → next_state m p ≡ r
  next_is p r e =
      let j = joined_from (λ q. map (λ b. q) (filter (λ b. b.target == r) (branches_of (transitions_of m q)))) p (all_states m)
      (only_among p (sources m r) (and_second (is_in_block m p && is_in_block m r) (is_only p (sources m r)) e)) in
      let c = constant_is j.0 p (filter (λ (b : Branch). b.target == r) (branches_of (transitions_of m j.0))) j.2 in
      let here : Among c.1 (branches_of (transitions_of m p)) = subst (λ z. Among c.1 (branches_of (transitions_of m z))) (sym c.0)
      (was_among (λ (b : Branch). b.target == r) c.1 (branches_of (transitions_of m j.0)) c.2) in
      let leads : (c.1.target == r) ≡ true = passes_test (λ (b : Branch). b.target == r) c.1 (branches_of (transitions_of m j.0)) c.2 in
      let to : c.1.target ≡ r = grind (arith, nat_tests) in
      one_branch (branches_of (transitions_of m p)) c.1 (few m p (not-true (is_cutpoint m p) (follows_in_block m p r e))) here ∙ to

  -- a trail with a state more at its front
  front : (j h p r : ℕ) → p < length m.states → follows m p h ≡ true → Trail m h j r → Trail m p (suc j) r
  front zero h p r lt e w = (p, refl, lt, subst (λ z. follows m p z ≡ true) w e)
  front (suc j) h p r lt e w = (w.0, front j h p w.0 lt e w.1, w.2, w.3)

  starts_block : (n q : ℕ) → slice_get (block_from m n q) 0 ≡ Some q
  starts_block zero q = refl
  starts_block (suc n) q = refl

  extend_first : (n h r : ℕ) (t : Bool) → follows m h (next_state m h) ≡ t → next_state m h ≡ r → follows m h r ≡ true
      → slice_get (cond t (block_from m n (next_state m h)) []) 0 ≡ Some r
  extend_first n h r true e f g = starts_block n (next_state m h) ∙ ap (λ z. Some z) f
  extend_first n h r false e f g = absurd (let d : follows m h (next_state m h) ≡ true = subst (λ z. follows m h z ≡ true) (sym f) g in cc (sym e ∙ d))

  extend_later : (n j h p r : ℕ) (t : Bool) → slice_get (cond t (block_from m n (next_state m h)) []) j ≡ Some p
      → (slice_get (block_from m n (next_state m h)) j ≡ Some p → slice_get (block_from m n (next_state m h)) (suc j) ≡ Some r)
      → slice_get (cond t (block_from m n (next_state m h)) []) (suc j) ≡ Some r
  extend_later n j h p r true g w = w g
  extend_later n j h p r false g w = absurd (cc g)

  -- a block goes on with the state that follows
  extend : (n j h p r : ℕ) → slice_get (block_from m n h) j ≡ Some p → follows m p r ≡ true → j < n → slice_get (block_from m n h) (suc j) ≡ Some r
  extend zero j h p r g e lt = absurd (omega (arith, lt))
  extend (suc n) zero h p r g e lt =
      let s : follows m h r ≡ true = subst (λ z. follows m z r ≡ true) (sym (same_Some h p g)) e in
      extend_first n h r (follows m h (next_state m h)) refl (next_is h r s) s
  extend (suc n) (suc j) h p r g e lt = extend_later n j h p r (follows m h (next_state m h)) g (λ f. extend n j (next_state m h) p r f e (omega (arith, lt)))

  few_step : (n : ℕ) (xs : List ℕ) (t : Bool) → length xs ≤ suc n → length (cond t xs []) ≤ suc n
  few_step n xs true h = h
  few_step n xs false h = omega arith

  -- the block from a state on with at most n states more
  few_from : (n q : ℕ) → length (block_from m n q) ≤ suc n
  few_from zero q = omega arith
  few_from (suc n) q = omega (arith, few_step n (block_from m n (next_state m q)) (follows m q (next_state m q)) (few_from n (next_state m q)))

  on_block : (j n h r : ℕ) → Trail m h j r → j ≤ n → slice_get (block_from m n h) j ≡ Some r
  on_block zero n h r w lt = starts_block n h ∙ ap (λ z. Some z) w
  on_block (suc j) n h r w lt = extend n j h w.0 r (on_block j n h w.0 w.1 (omega (arith, lt))) w.3 (omega (arith, lt))

  module _ (sound : IsSound m) where
    -- what is left of the way to a cutpoint at a trail's end
    left_over : (j n h r : ℕ) → Trail m h j r → reaches_cutpoint m (j + n) h ≡ true → reaches_cutpoint m n r ≡ true
    left_over zero n h r w e = subst (λ z. reaches_cutpoint m n z ≡ true) w
        (subst (λ z. reaches_cutpoint m z h ≡ true) (let d : 0 + n ≡ n = omega arith in d) e)
    left_over (suc j) n h r w e =
        let here : reaches_cutpoint m (suc n) w.0 ≡ true = left_over j (suc n) h w.0 w.1
        (subst (λ z. reaches_cutpoint m z h ≡ true) (let d : suc j + n ≡ j + suc n = omega arith in d) e) in
        let c : is_cutpoint m w.0 ≡ false = not-true (is_cutpoint m w.0) (follows_in_block m w.0 r w.3) in
        let to : first_transition_target (transitions_of m w.0) ≡ r = first_target m sound w.0 w.2 c ∙ next_is w.0 r w.3 in
        subst (λ z. reaches_cutpoint m n z ≡ true) to (or_other (is_cutpoint m w.0) _ c here)

    -- no trail is as long as there are states
    no_longer : (h r : ℕ) → Trail m h (length m.states) r → h < length m.states → is_in_block m r ≡ true → ⊥
    no_longer h r w lt s =
        let c : is_cutpoint m r ≡ false = not-true (is_cutpoint m r) s in
        let e : length m.states ≡ length m.states + 0 = omega arith in
        let d : reaches_cutpoint m 0 r ≡ true = left_over (length m.states) 0 h r w (subst (λ z. reaches_cutpoint m z h ≡ true) e (sound.cut h lt)) in
        cc (sym c ∙ d)

    back_step : (f j h r : ℕ) (t : Bool) → is_inner m h ≡ t → j + suc f ≡ length m.states → Trail m h j r → h < length m.states → is_in_block m h ≡ true
        → ((p : ℕ) → p < length m.states → follows m p h ≡ true → StandsInBlock m r) → StandsInBlock m r
    back_step f j h r true e a w lt s next_one =
        let p = some_of (λ p. follows m p h) (all_states m) e in
        let i : p.0 < 0 + length m.states = range_within 0 (length m.states) p.0 p.1 in
        next_one p.0 (omega (arith, i)) p.2
    back_step f j h r false e a w lt s next_one = record {
      first = h;
      within = lt;
      starts = and_from (is_in_block m h) (not (is_inner m h)) s (ap not e);
      index = j;
      is = on_block j (length m.states) h r w (omega (arith, a));
    }

    back : (f j h r : ℕ) → j + f ≡ length m.states → Trail m h j r → h < length m.states → is_in_block m h ≡ true → is_in_block m r ≡ true → StandsInBlock m r
    back zero j h r a w lt s e = absurd (let d : j ≡ length m.states = omega (arith, a) in no_longer h r (subst (λ z. Trail m h z r) d w) lt e)
    back (suc f) j h r a w lt s e = back_step f j h r (is_inner m h) refl a w lt s
        (λ p i g. back f (suc j) p r (omega (arith, a)) (front j h p r i g w) i (follows_in_block m p h g) e)

    pub stands : (q : ℕ) → q < length m.states → is_in_block m q ≡ true → StandsInBlock m q
    stands q lt s = back (length m.states) 0 q q (omega arith) refl lt s s

    trail_to : (q : ℕ) (a : StandsInBlock m q) → Trail m a.first a.index q
    trail_to q a = subst (λ z. Trail m a.first z q) (let e : 0 + a.index ≡ a.index = omega arith in e)
        (walk m sound (length m.states) a.first 0 a.index a.first q a.within refl a.is)

    pub stands_once : (q : ℕ) (a b : StandsInBlock m q) → (a.first ≡ b.first) × (a.index ≡ b.index)
    stands_once q a b = apart m a.index b.index a.first b.first q (first_outer m a.first a.starts) (first_outer m b.first b.starts)
        (trail_to q a) (trail_to q b)

    pub none_before : (p h : ℕ) → is_first_of_block m h ≡ true → p < length m.states → follows m p h ≡ false
    none_before p h e lt = false_from_ne_true (follows m p h) (λ g. cc (sym (first_outer m h e) ∙ inner m p h lt g))

    last_step : (k h q r : ℕ) (t : Bool) → (k == length m.states) ≡ t → Trail m h k q → h < length m.states → k ≤ length m.states → follows m q r ≡ true
        → k < length m.states
    last_step k h q r true e w lt l f =
        absurd (let d : k ≡ length m.states = grind (arith, nat_tests) in no_longer h q (subst (λ z. Trail m h z q) d w) lt (follows_in_block m q r f))
    last_step k h q r false e w lt l f = grind (arith, nat_tests)

    pub none_behind : (q r : ℕ) (a : StandsInBlock m q) → length (basic_block_at m a.first) ≡ suc a.index → follows m q r ≡ false
    none_behind q r a l =
        false_from_ne_true (follows m q r) (λ f. past_end (basic_block_at m a.first) (suc a.index) r l
        (extend (length m.states) a.index a.first q r a.is f
        (last_step a.index a.first q r (a.index == length m.states) refl (trail_to q a) a.within (omega (arith, l, few_from (length m.states) a.first)) f)))
