-- Rows stand in place of blocks.
use Rattle.std.proofs.Common.{◌≡◌, ◌⊎◌, inl, inr, ℕ, zero, suc, ◌+◌, ◌<◌, ◌≤◌, refl, sym, ◌∙◌, ap, subst, arith, Bool, true, false, List, [], ◌∷◌, map, length}
use Rattle.std.proofs.Common.{Option, Some}
use Rattle.std.specs.Prelude.{◌≢◌, ◌==◌, ◌&&◌, not, cond, slice_get}
use Rattle.std.proofs.lemmas.Bool.Decides.{nat_tests}
use Rattle.std.proofs.lemmas.List.FromFn.{get_or-map-range_with_len}
use Rattle.std.proofs.lemmas.Bool.{false_from_ne_true, not-true}
use Rattle.fs_model.specs.Expressions.{Transition}
use Rattle.fs_model.specs.Machines.{State, Fsmd, transitions_of}
use Rattle.fs_model.specs.Stores.{Store}
use Rattle.fs_model.specs.Meaning.{transition_taken, act_all}
use Rattle.fs_model.specs.Runs.{Step, SameBehaviour}
use Rattle.fs_model.specs.SoundMachines.{IsSound, branch_count, is_cutpoint}
use Rattle.fs_cut.specs.Paths.{target_of, store_after}
use Rattle.fs_cut.specs.Cuts.{branch_taken}
use Rattle.fs_cut.proofs.Branches.{target_in, takes_branch, only_branch, step_taken, step_at}
use Rattle.hls_block_filling.specs.Items.{Item, store_after_items}
use Rattle.hls_block_filling.specs.BasicBlocks.{all_states, is_in_block, follows, next_state, block_from, exit_from, basic_block_at, exit_of, is_inner}
use Rattle.hls_block_filling.specs.BasicBlocks.{is_first_of_block, firsts, item_of, items_at}
use Rattle.hls_block_filling.specs.RowMachines.{Move, after_row, moves, all_moves, move_transition, transitions_by, state_at, machine_with_rows, KeepsStores}
use Rattle.hls_block_filling.proofs.Among.{Among, passes_test, was_among, stays_among, joined_from, in_joined, in_range, range_within, some_of}
use Rattle.hls_block_filling.proofs.Trails.{Trail, apart, walk, block_in, trail_in_block, next_in, Station, enters, leaves_block, follows_in_block, follows_on}
use Rattle.hls_block_filling.proofs.Trails.{first_in_block, first_outer}
use Rattle.hls_block_filling.proofs.Paces.{Passes, Pace, same_by_paces}

pub both_of : (b c : Bool) → b ≡ true → c ≡ false → (b && not c) ≡ true
both_of b c e f = grind arith

-- ---- the transitions of a state by moves
found_step : (y x : Move) (ys : List Move) (others : List (Transition ℕ ℕ)) (t : Bool) → (y.state == x.state) ≡ t → (y.state ≡ x.state → y ≡ x)
    → (x ≡ y) ⊎ Among x ys → (Among x ys → transitions_by ys x.state others ≡ move_transition x ∷ [])
    → cond t (move_transition y ∷ []) (transitions_by ys x.state others) ≡ move_transition x ∷ []
found_step y x ys others true e u w next_one = ap (λ z. move_transition z ∷ []) (u (grind (arith, nat_tests)))
found_step y x ys others false e u (inl f) next_one = absurd (let g : x.state ≡ y.state = ap (λ z. z.state) f in grind (arith, nat_tests))
found_step y x ys others false e u (inr w) next_one = next_one w

found : (xs : List Move) (x : Move) (others : List (Transition ℕ ℕ)) → Among x xs → ((y : Move) → Among y xs → y.state ≡ x.state → y ≡ x)
    → transitions_by xs x.state others ≡ move_transition x ∷ []
found [] x others h u = absurd h
found (y ∷ ys) x others h u = found_step y x ys others (y.state == x.state) refl (u y (inl refl)) h (λ w. found ys x others w (λ z v. u z (inr v)))

other_step : (y : Move) (q : ℕ) (here others : List (Transition ℕ ℕ)) (t : Bool) → (y.state == q) ≡ t → y.state ≢ q → here ≡ others
    → cond t (move_transition y ∷ []) here ≡ others
other_step y q here others true e n h = absurd (n (grind (arith, nat_tests)))
other_step y q here others false e n h = h

pub not_found : (xs : List Move) (q : ℕ) (others : List (Transition ℕ ℕ)) → ((y : Move) → Among y xs → y.state ≢ q) → transitions_by xs q others ≡ others
not_found [] q others h = refl
not_found (y ∷ ys) q others h = other_step y q (transitions_by ys q others) others (y.state == q) refl (h y (inl refl))
    (not_found ys q others (λ z w. h z (inr w)))

-- ---- moves by their places
record PlacedAt {X : Type 0} (x : X) (xs : List X) : Type 0 where
  place : ℕ
  is : slice_get xs place ≡ Some x

placed_at : {X : Type 0} (x : X) (xs : List X) → Among x xs → PlacedAt x xs
placed_at x [] h = absurd h
placed_at x (y ∷ ys) (inl e) = record { place = 0; is = ap Some (sym e) }
placed_at x (y ∷ ys) (inr h) = let w = placed_at x ys h in record { place = suc w.place; is = w.is }

pub move_state : (exit : ℕ) (qs : List ℕ) (rows : List Item) (j : ℕ) (x : Move) → slice_get (moves exit qs rows) j ≡ Some x → slice_get qs j ≡ Some x.state
move_state exit [] rows j x e = absurd (cc e)
move_state exit (q ∷ qs) [] j x e = absurd (cc e)
move_state exit (q ∷ qs) (a ∷ rows) zero x e = let f : record { state = q; assignments = a; target = after_row exit qs rows } ≡ x = cc e in
    ap (λ (z : Move). Some z.state) f
move_state exit (q ∷ qs) (a ∷ rows) (suc j) x e = move_state exit qs rows j x e

pub same_move : (x y : Move) (o : Option Move) → o ≡ Some x → o ≡ Some y → y ≡ x
same_move x y o e f = cc (sym f ∙ e)

-- ---- a machine goes through its moves
abbrev pub count : List Item → ℕ
count [] = 0
count (a ∷ rows) = suc (count rows)

abbrev pub Does : Fsmd → Move → Type 0
Does M x = (transitions_of M x.state ≡ move_transition x ∷ []) × (x.state ≢ M.reset)

does_move : (M : Fsmd) (x : Move) (s : Store) → Does M x → Step M x.state s x.target (act_all x.assignments s s)
does_move M x s d = record { transition = move_transition x; taken = ap (λ ls. transition_taken ls s) d.0; target = refl; store = refl }

goes_through : (M : Fsmd) (exit q : ℕ) (qs : List ℕ) (a : Item) (rows : List Item) (s : Store) → length (a ∷ rows) ≤ length (q ∷ qs)
    → ((x : Move) → Among x (moves exit (q ∷ qs) (a ∷ rows)) → Does M x) → Passes M (suc (count rows)) q s exit (store_after_items (a ∷ rows) s)
goes_through M exit q qs a [] s h d =
    let x : Move = record { state = q; assignments = a; target = exit } in
    let e : Does M x = d x (inl refl) in
    (e.1, record { state = exit; store = act_all a s s; step = does_move M x s e; after = (refl, refl) })
goes_through M exit q [] a (b ∷ rows) s h d = absurd (omega arith)
goes_through M exit q (r ∷ qs) a (b ∷ rows) s h d =
    let x : Move = record { state = q; assignments = a; target = r } in
    let e : Does M x = d x (inl refl) in (
      e.1,
      record {
        state = r;
        store = act_all a s s;
        step = does_move M x s e;
        after = goes_through M exit r qs b rows (act_all a s s) (omega arith) (λ y w. d y (inr w));
      },
    )

module _ (m : Fsmd) (sound : IsSound m) (rows : ℕ → List Item) (keeps : KeepsStores m rows) where
  abbrev pub New : Fsmd
  New = machine_with_rows m rows

  pub lines_replaced : (q : ℕ) → q < length m.states → transitions_of New q ≡ transitions_by (all_moves m rows) q (transitions_of m q)
  lines_replaced q h = ap (λ (x : State). x.transitions)
      (get_or-map-range_with_len (λ k. record { name = (state_at m k).name; transitions = transitions_by (all_moves m rows) k (transitions_of m k) }) 0
      (length m.states) q q (record { name = []; transitions = [] }) h (omega arith))

  -- where a move stands
  pub record At (x : Move) : Type 0 where
    pub head : ℕ
    pub within : head < length m.states
    pub first : is_first_of_block m head ≡ true
    pub place : ℕ
    pub is : slice_get (moves (exit_of m head) (basic_block_at m head) (rows head)) place ≡ Some x

  pub at : (x : Move) → Among x (all_moves m rows) → At x
  at x h =
      let w = joined_from (λ q. moves (exit_of m q) (basic_block_at m q) (rows q)) x (firsts m) h in
      let p = placed_at x (moves (exit_of m w.0) (basic_block_at m w.0) (rows w.0)) w.2 in
      let i : w.0 < 0 + length m.states = range_within 0 (length m.states) w.0 (was_among (is_first_of_block m) w.0 (all_states m) w.1) in
      record { head = w.0; within = omega (arith, i); first = passes_test (is_first_of_block m) w.0 (all_states m) w.1; place = p.place; is = p.is }

  pub on_trail : (x : Move) (a : At x) → Trail m a.head (0 + a.place) x.state
  on_trail x a = walk m sound (length m.states) a.head 0 a.place a.head x.state a.within refl
      (move_state (exit_of m a.head) (basic_block_at m a.head) (rows a.head) a.place x a.is)

  one_move : (x y : Move) → Among x (all_moves m rows) → Among y (all_moves m rows) → y.state ≡ x.state → y ≡ x
  one_move x y g h e =
      let a = at x g in
      let b = at y h in
      let d = apart m (0 + a.place) (0 + b.place) a.head b.head x.state (first_outer m a.head a.first) (first_outer m b.head b.first) (on_trail x a)
      (subst (λ z. Trail m b.head (0 + b.place) z) e (on_trail y b)) in
      let i : b.place ≡ a.place = omega (arith, d.1) in
      let f : slice_get (moves (exit_of m a.head) (basic_block_at m a.head) (rows a.head)) a.place ≡ Some y =
      subst (λ z. slice_get (moves (exit_of m z) (basic_block_at m z) (rows z)) a.place ≡ Some y) (sym d.0)
      (subst (λ z. slice_get (moves (exit_of m b.head) (basic_block_at m b.head) (rows b.head)) z ≡ Some y) i b.is) in
      same_move x y (slice_get (moves (exit_of m a.head) (basic_block_at m a.head) (rows a.head)) a.place) a.is f

  pub move_in_block : (x : Move) → Among x (all_moves m rows) → is_in_block m x.state ≡ true
  move_in_block x h = let a = at x h in trail_in_block m sound (0 + a.place) a.head x.state (first_in_block m a.head a.first) (on_trail x a)

  pub not_reset : (q : ℕ) → is_in_block m q ≡ true → q ≢ m.reset
  not_reset q e = let f : is_cutpoint m q ≡ false = not-true (is_cutpoint m q) e in λ h. absurd (grind (arith, nat_tests))

  pub move_in : (x : Move) → Among x (all_moves m rows) → x.state < length m.states
  move_in x h = let a = at x h in block_in m sound (length m.states) a.place a.head x.state a.within
      (move_state (exit_of m a.head) (basic_block_at m a.head) (rows a.head) a.place x a.is)

  pub does : (x : Move) → Among x (all_moves m rows) → Does New x
  does x h =
      let a = at x h in
      let i : x.state < length m.states = block_in m sound (length m.states) a.place a.head x.state a.within
      (move_state (exit_of m a.head) (basic_block_at m a.head) (rows a.head) a.place x a.is) in
      (lines_replaced x.state i ∙ found (all_moves m rows) x (transitions_of m x.state) h (λ y g e. one_move x y h g e), not_reset x.state (move_in_block x h))

  -- ---- the block of the old machine
  abbrev more : ℕ → ℕ → ℕ
  more zero q = 0
  more (suc n) q = cond (follows m q (next_state m q)) (suc (more n (next_state m q))) 0

  old_step : (q : ℕ) (s : Store) → q < length m.states → is_in_block m q ≡ true → Step m q s (next_state m q) (act_all (item_of m q) s s)
  old_step q s h e =
      subst (λ k. Step m q s (target_of m q k) (store_after m (record { state = q; branch = k }) s)) (only_branch m sound q s h (not-true (is_cutpoint m q) e))
      (step_taken m sound q s h)

  old_rest : (n q : ℕ) (s : Store) (t : Bool) → follows m q (next_state m q) ≡ t
      → (follows m q (next_state m q) ≡ true → Passes m (suc (more n (next_state m q))) (next_state m q) s (exit_from m n (next_state m q))
      (store_after_items (map (item_of m) (block_from m n (next_state m q))) s))
      → Passes m (cond t (suc (more n (next_state m q))) 0) (next_state m q) s (cond t (exit_from m n (next_state m q)) (next_state m q))
      (store_after_items (map (item_of m) (cond t (block_from m n (next_state m q)) [])) s)
  old_rest n q s true e h = h e
  old_rest n q s false e h = (refl, refl)

  old_block : (n q : ℕ) (s : Store) → q < length m.states → is_in_block m q ≡ true
      → Passes m (suc (more n q)) q s (exit_from m n q) (store_after_items (map (item_of m) (block_from m n q)) s)
  old_block zero q s h e = (not_reset q e, record { state = next_state m q; store = act_all (item_of m q) s s; step = old_step q s h e; after = (refl, refl) })
  old_block (suc n) q s h e = (
    not_reset q e,
    record {
      state = next_state m q;
      store = act_all (item_of m q) s s;
      step = old_step q s h e;
      after = old_rest n q (act_all (item_of m q) s s) (follows m q (next_state m q)) refl
          (λ f. old_block n (next_state m q) (act_all (item_of m q) s s) (next_in m sound q h) (follows_on m q (next_state m q) f));
    },
  )

  -- ---- paces
  abbrev Pairs : ℕ → ℕ → Type 0
  Pairs q p = (q ≡ p) × Station m sound q

  pub begins : (n q : ℕ) → (qs : List ℕ) × (block_from m n q ≡ q ∷ qs)
  begins zero q = ([], refl)
  begins (suc n) q = (cond (follows m q (next_state m q)) (block_from m n (next_state m q)) [], refl)

  rows_pass : (q : ℕ) (s : Store) (bs : List Item) → rows q ≡ bs → q < length m.states → is_first_of_block m q ≡ true
      → (n : ℕ) × Passes New (suc n) q s (exit_of m q) (store_after_items bs s)
  rows_pass q s [] e h f = absurd (keeps.some q h f e)
  rows_pass q s (a ∷ rest) e h f =
      let block = begins (length m.states) q in
      let few : length (a ∷ rest) ≤ length (q ∷ block.0) = subst (λ z. length (a ∷ rest) ≤ length z) block.1
      (subst (λ z. length z ≤ length (basic_block_at m q)) e (keeps.no_more q h f)) in (
        count rest,
        goes_through New (exit_of m q) q block.0 a rest s few
            (λ x w. does x
            (in_joined (λ k. moves (exit_of m k) (basic_block_at m k) (rows k)) x q (firsts m)
            (stays_among (is_first_of_block m) q (all_states m) f (in_range 0 (length m.states) q (omega arith) (omega arith)))
            (subst (λ z. Among x (moves (exit_of m q) (basic_block_at m q) z)) (sym e)
            (subst (λ z. Among x (moves (exit_of m q) z (a ∷ rest))) (sym block.1) w)))),
      )

  block_pace : (q : ℕ) (s : Store) → Station m sound q → is_in_block m q ≡ true → Pace m New Pairs q q s
  block_pace q s at_station e =
      let f : is_first_of_block m q ≡ true = both_of (is_in_block m q) (is_inner m q) e at_station.1 in
      let old : Passes m (suc (more (length m.states) q)) q s (exit_of m q) (store_after_items (items_at m q) s) =
      old_block (length m.states) q s at_station.0 e in
      let new = rows_pass q s (rows q) refl at_station.0 f in
      let passes : Passes New (suc new.0) q s (exit_of m q) (store_after_items (items_at m q) s) =
      subst (λ z. Passes New (suc new.0) q s (exit_of m q) z) (keeps.stores q s at_station.0 f) new.1 in
      record {
        left = more (length m.states) q;
        right = new.0;
        to_left = exit_of m q;
        to_right = exit_of m q;
        store = store_after_items (items_at m q) s;
        leads_left = old.1;
        leads_right = passes.1;
        related = (refl, leaves_block m sound (length m.states) q at_station.0 e (sound.cut q at_station.0));
      }

  other_pace : (q : ℕ) (s : Store) → Station m sound q → is_in_block m q ≡ false → Pace m New Pairs q q s
  other_pace q s at_station e =
      let k = branch_taken m q s in
      let w = step_taken m sound q s at_station.0 in
      let r = target_of m q k in
      let t : Store = store_after m (step_at m q s) s in
      let same : transitions_of New q ≡ transitions_of m q = lines_replaced q at_station.0
      ∙ not_found (all_moves m rows) q (transitions_of m q)
      (λ x h g. let u : is_in_block m q ≡ true = subst (λ z. is_in_block m z ≡ true) g (move_in_block x h) in absurd (cc (sym e ∙ u))) in
      let i : k < branch_count m q = (takes_branch m sound q s at_station.0).within in
      record {
        left = 0;
        right = 0;
        to_left = r;
        to_right = r;
        store = t;
        leads_left = record { state = r; store = t; step = w; after = (refl, refl) };
        leads_right = record {
          state = r;
          store = t;
          step = record { transition = w.transition; taken = ap (λ ls. transition_taken ls s) same ∙ w.taken; target = w.target; store = w.store };
          after = (refl, refl);
        };
        related = (
          refl,
          (
            target_in m sound q k i,
            enters m sound q k r at_station.0 i refl
                (false_from_ne_true (follows m q r) (λ f. let u : is_in_block m q ≡ true = follows_in_block m q r f in cc (sym e ∙ u))),
          ),
        );
      }

  pace_by : (q : ℕ) (s : Store) (t : Bool) → is_in_block m q ≡ t → Station m sound q → Pace m New Pairs q q s
  pace_by q s true e w = block_pace q s w e
  pace_by q s false e w = other_pace q s w e

  pace : (q p : ℕ) (s : Store) → Pairs q p → Pace m New Pairs q p s
  pace q p s w = subst (λ z. Pace m New Pairs q z s) w.0 (pace_by q s (is_in_block m q) refl w.1)

  pub at_reset : Station m sound m.reset
  at_reset = (
    sound.reset_in,
    false_from_ne_true (is_inner m m.reset)
        (λ g. let w = some_of (λ p. follows m p m.reset) (all_states m) g in not_reset m.reset (follows_on m w.0 m.reset w.2) refl),
  )

  pub replaced_behaves : SameBehaviour m (machine_with_rows m rows)
  replaced_behaves = same_by_paces m New Pairs refl (refl, at_reset) (λ q p w e. sym w.0 ∙ e) (λ q p w e. w.0 ∙ e) pace
