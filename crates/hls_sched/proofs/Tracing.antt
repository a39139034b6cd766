-- Blocks as they are traced.
use Rattle.std.proofs.Common.{◌≡◌, inl, inr, ℕ, zero, suc, ◌+◌, ◌-◌, ◌<◌, ◌≤◌, List, [], ◌∷◌, ◌++◌, length, map, refl, sym, ◌∙◌, ap, subst, arith, Bool, true}
use Rattle.std.proofs.Common.{false, Some, append-nil, length-append}
use Rattle.std.specs.Prelude.{◌==◌, cond, filter, slice_get, option_map}
use Rattle.std.specs.List.{All, slice_index_or, range_with_len}
use Rattle.std.proofs.lemmas.Bool.Decides.{nat_tests}
use Rattle.std.proofs.lemmas.List.{get_or-map, length-map}
use Rattle.std.proofs.lemmas.Option.{slice_get-map, slice_get-get_or}
use Rattle.std.proofs.lemmas.Bool.{false_from_ne_true, not-true}
use Rattle.fs_model.proofs.Booleans.{or_other}
use Rattle.fs_model.specs.declared.parts.StateId.{StateId}
use Rattle.fs_model.specs.declared.parts.Branch.{Branch as CodeBranch}
use Rattle.fs_model.specs.Machines.{Fsmd, transitions_of}
use Rattle.fs_model.specs.Trees.{Branch, branches_of}
use Rattle.fs_model.specs.View.{assignment_of, branch_of}
use Rattle.fs_model.specs.SoundMachines.{IsSound, is_cutpoint, reaches_cutpoint, first_transition_target}
use Rattle.fs_cut.proofs.Branches.{first_target, no_branch}
use Rattle.fs_cut.proofs.Loops.{range_step, has_first, more}
use Rattle.hls_block_filling.specs.BasicBlocks.{all_states, sources, is_only, is_in_block, follows, next_state, block_from, basic_block_at, exit_from}
use Rattle.hls_block_filling.specs.BasicBlocks.{is_inner, is_first_of_block, firsts, item_of}
use Rattle.hls_block_filling.proofs.Among.{Among, joined_from, some_of, passes_test, was_among, range_within, among_at}
use Rattle.hls_block_filling.proofs.Trails.{inner, follows_in_block, follows_on, next_in, block_in, follows_only}

-- what holds of the numbers of states
each_of : (P : ℕ → Type 0) (qs : List StateId) (xs : List ℕ) → map (λ q. q.0) qs ≡ xs → ((k r : ℕ) → slice_get xs k ≡ Some r → P r) → All (λ q. P q.0) qs
each_of P qs xs e h k d i =
    h k (slice_index_or qs k d).0
    (ap (λ l. slice_get l k) (sym e) ∙ slice_get-map (λ (q : StateId). q.0) qs k ∙ ap (option_map (λ (q : StateId). q.0)) (slice_get-get_or qs k d i))

-- ---- what a state does
pub first_item_at :
    (m : Fsmd) (q : ℕ) (bs : List CodeBranch) (b : CodeBranch) → IsSound m → q < length m.states
    → map branch_of bs ≡ branches_of (transitions_of m q) → map assignment_of (slice_index_or bs 0 b).assigns.value.items ≡ item_of m q
first_item_at m q bs b sound h e =
    ap (λ (x : Branch). x.assignments) (sym (get_or-map branch_of bs 0 b no_branch (has_first m q bs sound h e)))
    ∙ ap (λ (l : List Branch). (slice_index_or l 0 no_branch).assignments) e

-- ---- what comes before a state
constant : {X : Type 0} (q p : ℕ) (xs : List X) → Among p (map (λ _. q) xs) → p ≡ q
constant q p [] h = absurd h
constant q p (x ∷ xs) (inl e) = e
constant q p (x ∷ xs) (inr h) = constant q p xs h

module _ (m : Fsmd) where
  source_in : (p r : ℕ) → Among p (sources m r) → p < length m.states
  source_in p r h =
      let j = joined_from (λ q. map (λ b. q) (filter (λ b. b.target == r) (branches_of (transitions_of m q)))) p (all_states m) h in
      let i : j.0 < 0 + length m.states = range_within 0 (length m.states) j.0 j.1 in
      let e : p ≡ j.0 = constant j.0 p (filter (λ (b : Branch). b.target == r) (branches_of (transitions_of m j.0))) j.2 in
      omega (arith, e, i)

  pub only_source_in : (p r : ℕ) → sources m r ≡ p ∷ [] → p < length m.states
  only_source_in p r e = source_in p r (subst (λ l. Among p l) (sym e) (inl refl))

  inner_step : (p r : ℕ) (t : Bool) → follows m p r ≡ t → sources m r ≡ p ∷ [] → is_inner m r ≡ t
  inner_step p r true f e = inner m p r (only_source_in p r e) f
  inner_step p r false f e =
      false_from_ne_true (is_inner m r) (λ g. (
      let w = some_of (λ q. follows m q r) (all_states m) g in
      let o : (p == w.0) ≡ true = ap (is_only w.0) (sym e) ∙ follows_only m w.0 r w.2 in
      let s : w.0 ≡ p = grind (arith, nat_tests) in
      let u : follows m p r ≡ true = subst (λ z. follows m z r ≡ true) s w.2 in
      cc (sym f ∙ u)))

  -- a state with one source comes after another one exactly where it comes after that
  pub inner_by : (p r : ℕ) → sources m r ≡ p ∷ [] → follows m p r ≡ is_inner m r
  inner_by p r e = sym (inner_step p r (follows m p r) refl e)

  pub not_inner : (r : ℕ) → ((q : ℕ) → false ≡ is_only q (sources m r)) → false ≡ is_inner m r
  not_inner r h =
      sym (false_from_ne_true (is_inner m r) (λ g. (let w = some_of (λ q. follows m q r) (all_states m) g in cc (h w.0 ∙ follows_only m w.0 r w.2))))

  -- ---- first states
  first_taken : (k n : ℕ) → k < n → is_first_of_block m k ≡ true
      → filter (is_first_of_block m) (range_with_len k (n - k)) ≡ k ∷ filter (is_first_of_block m) (range_with_len (k + 1) (n - (k + 1)))
  first_taken k n h e =
      let rest = filter (is_first_of_block m) (range_with_len (k + 1) (n - (k + 1))) in
      ap (filter (is_first_of_block m)) (range_step k n h) ∙ ap (λ b. cond b (k ∷ rest) rest) e

  pub first_more : (old new : List StateId) (s : StateId) (k n : ℕ) → k < n → s.0 ≡ k → is_first_of_block m k ≡ true → new ≡ old ++ s ∷ []
      → map (λ q. q.0) new ++ filter (is_first_of_block m) (range_with_len (k + 1) (n - (k + 1))) ≡ map (λ q. q.0) old
      ++ filter (is_first_of_block m) (range_with_len k (n - k))
  first_more old new s k n h e f g = more (λ (q : StateId). q.0) old new s k _ _ g e (first_taken k n h f)

  pub first_left : (k n : ℕ) → k < n → is_first_of_block m k ≡ false
      → filter (is_first_of_block m) (range_with_len k (n - k)) ≡ filter (is_first_of_block m) (range_with_len (k + 1) (n - (k + 1)))
  first_left k n h e =
      let rest = filter (is_first_of_block m) (range_with_len (k + 1) (n - (k + 1))) in
      ap (filter (is_first_of_block m)) (range_step k n h) ∙ ap (λ b. cond b (k ∷ rest) rest) e

  pub firsts_done : (out : List ℕ) (k n : ℕ) → n - k ≡ 0 → out ++ filter (is_first_of_block m) (range_with_len k (n - k)) ≡ firsts m → out ≡ firsts m
  firsts_done out k n e h = sym (append-nil out) ∙ sym (ap (λ j. out ++ filter (is_first_of_block m) (range_with_len k j)) e) ∙ h

  pub firsts_within : (qs : List StateId) → map (λ q. q.0) qs ≡ firsts m → All (λ q. q.0 < length m.states) qs
  firsts_within qs e =
      each_of (λ q. q < length m.states) qs (firsts m) e
      (λ k r g.
      (let i : r < 0 + length m.states = range_within 0 (length m.states) r (was_among (is_first_of_block m) r (all_states m) (among_at (firsts m) k r g)) in
      omega (arith, i)))

  pub firsts_are_first : (qs : List StateId) → map (λ q. q.0) qs ≡ firsts m → All (λ q. is_first_of_block m q.0 ≡ true) qs
  firsts_are_first qs e = each_of (λ q. is_first_of_block m q ≡ true) qs (firsts m) e
      (λ k r g. passes_test (is_first_of_block m) r (all_states m) (among_at (firsts m) k r g))

  -- ---- a block
  block_stops : (n k q r : ℕ) → k < n → r ≡ next_state m q → follows m q r ≡ false → block_from m (n - k) q ≡ q ∷ []
  block_stops n k q r h e f =
      let j : n - k ≡ suc (n - (k + 1)) = omega arith in
      let g : follows m q (next_state m q) ≡ false = subst (λ z. follows m q z ≡ false) e f in
      ap (λ i. block_from m i q) j ∙ ap (λ b. q ∷ cond b (block_from m (n - (k + 1)) (next_state m q)) []) g

  block_goes : (n k q r : ℕ) → k < n → r ≡ next_state m q → follows m q r ≡ true → block_from m (n - k) q ≡ q ∷ block_from m (n - (k + 1)) r
  block_goes n k q r h e f =
      let j : n - k ≡ suc (n - (k + 1)) = omega arith in
      let g : follows m q (next_state m q) ≡ true = subst (λ z. follows m q z ≡ true) e f in
      ap (λ i. block_from m i q) j ∙ ap (λ b. q ∷ cond b (block_from m (n - (k + 1)) (next_state m q)) []) g
      ∙ ap (λ z. q ∷ block_from m (n - (k + 1)) z) (sym e)

  -- the states so far and the last one are the whole block
  pub last_traced : (old new : List StateId) (last : StateId) (n k r : ℕ) (whole : List ℕ) → k < n → r ≡ next_state m last.0 → follows m last.0 r ≡ false
      → new ≡ old ++ last ∷ []
      → map (λ q. q.0) old ++ block_from m (n - k) last.0 ≡ whole → map (λ q. q.0) new ≡ whole
  last_traced old new last n k r whole h e f g traced =
      sym (append-nil (map (λ (q : StateId). q.0) new)) ∙ more (λ (q : StateId). q.0) old new last last.0 [] _ g refl (block_stops n k last.0 r h e f) ∙ traced

  -- the states so far and one more, and what is left from the next one on
  pub one_traced : (old new : List StateId) (last : StateId) (n k r : ℕ) (whole : List ℕ) → k < n → r ≡ next_state m last.0 → follows m last.0 r ≡ true
      → new ≡ old ++ last ∷ []
      → map (λ q. q.0) old ++ block_from m (n - k) last.0 ≡ whole → map (λ q. q.0) new ++ block_from m (n - (k + 1)) r ≡ whole
  one_traced old new last n k r whole h e f g traced = more (λ (q : StateId). q.0) old new last last.0 (block_from m (n - (k + 1)) r) _ g refl
      (block_goes n k last.0 r h e f) ∙ traced

  pub exit_stops : (n k q r : ℕ) → k < n → r ≡ next_state m q → follows m q r ≡ false → exit_from m (n - k) q ≡ r
  exit_stops n k q r h e f =
      let j : n - k ≡ suc (n - (k + 1)) = omega arith in
      let g : follows m q (next_state m q) ≡ false = subst (λ z. follows m q z ≡ false) e f in
      ap (λ i. exit_from m i q) j ∙ ap (λ b. cond b (exit_from m (n - (k + 1)) (next_state m q)) (next_state m q)) g ∙ sym e

  pub exit_goes : (n k q r : ℕ) → k < n → r ≡ next_state m q → follows m q r ≡ true → exit_from m (n - k) q ≡ exit_from m (n - (k + 1)) r
  exit_goes n k q r h e f =
      let j : n - k ≡ suc (n - (k + 1)) = omega arith in
      let g : follows m q (next_state m q) ≡ true = subst (λ z. follows m q z ≡ true) e f in
      ap (λ i. exit_from m i q) j ∙ ap (λ b. cond b (exit_from m (n - (k + 1)) (next_state m q)) (next_state m q)) g ∙ ap (exit_from m (n - (k + 1))) (sym e)

  module _ (sound : IsSound m) where
    pub block_within : (qs : List StateId) (q : ℕ) → q < length m.states → map (λ r. r.0) qs ≡ basic_block_at m q → All (λ r. r.0 < length m.states) qs
    block_within qs q h e = each_of (λ r. r < length m.states) qs (basic_block_at m q) e (λ k r g. block_in m sound (length m.states) k q r h g)

    -- a block has no more states than the machine
    short_step : (n q : ℕ) (xs : List ℕ) (t : Bool) → (t ≡ true → length xs ≤ n) → length (q ∷ cond t xs []) ≤ suc n
    short_step n q xs true h = let i : length xs ≤ n = h refl in omega (arith, i)
    short_step n q xs false h = omega arith

    short_where_in_block : (n q : ℕ) → q < length m.states → is_in_block m q ≡ true → reaches_cutpoint m n q ≡ true → length (block_from m n q) ≤ n
    short_where_in_block zero q h e r = absurd (let c : is_cutpoint m q ≡ false = not-true (is_cutpoint m q) e in cc (sym c ∙ r))
    short_where_in_block (suc n) q h e r =
        let c : is_cutpoint m q ≡ false = not-true (is_cutpoint m q) e in
        short_step n q (block_from m n (next_state m q)) (follows m q (next_state m q))
        (λ f. short_where_in_block n (next_state m q) (next_in m sound q h) (follows_on m q (next_state m q) f)
        (subst (λ z. reaches_cutpoint m n z ≡ true) (first_target m sound q h c)
        (or_other (is_cutpoint m q) (reaches_cutpoint m n (first_transition_target (transitions_of m q))) c r)))

    short_where_alone : (n q : ℕ) → 0 < n → is_in_block m q ≡ false → length (block_from m n q) ≤ n
    short_where_alone zero q h e = absurd (omega (arith, h))
    short_where_alone (suc n) q h e = short_step n q (block_from m n (next_state m q)) (follows m q (next_state m q))
        (λ f. absurd (cc (sym e ∙ follows_in_block m q (next_state m q) f)))

    short_by : (q : ℕ) (t : Bool) → is_in_block m q ≡ t → q < length m.states → length (basic_block_at m q) ≤ length m.states
    short_by q true e h = short_where_in_block (length m.states) q h e (sound.cut q h)
    short_by q false e h = short_where_alone (length m.states) q (omega (arith, h)) e

    pub block_is_short : (q : ℕ) → q < length m.states → length (basic_block_at m q) ≤ length m.states
    block_is_short q h = short_by q (is_in_block m q) refl h

    some_state : (n q : ℕ) → 0 < length (block_from m n q)
    some_state zero q = omega arith
    some_state (suc n) q = omega arith

    -- after as many states as the machine has, no state of a block is left
    pub too_long : (qs : List StateId) (n q r : ℕ) → q < length m.states → length m.states ≤ length qs
        → map (λ s. s.0) qs ++ block_from m n r ≡ basic_block_at m q → ⊥
    too_long qs n q r h l e =
        omega (
          arith,
          ap length e,
          length-append (map (λ (s : StateId). s.0) qs) (block_from m n r),
          length-map qs (λ (s : StateId). s.0),
          some_state n r,
          block_is_short q h,
          l,
        )
