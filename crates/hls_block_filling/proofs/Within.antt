-- A schedule is within the units.
use Rattle.std.proofs.Common.{◌≡◌, inl, inr, ℕ, zero, suc, ◌+◌, ◌<◌, ◌≤◌, refl, sym, ◌∙◌, ap, subst, arith, Bool, true, false, List, [], ◌∷◌, ◌++◌, map, length}
use Rattle.std.proofs.Common.{Option, Some, None}
use Rattle.std.specs.Prelude.{◌==◌, cond, slice_get}
use Rattle.std.specs.List.{slice_index_or}
use Rattle.fs_model.specs.Expressions.{Assignment, Transition}
use Rattle.fs_model.specs.Machines.{State, Fsmd, transitions_of}
use Rattle.fs_model.specs.SoundMachines.{IsSound}
use Rattle.hls_block_filling.specs.Items.{Item}
use Rattle.hls_block_filling.specs.Placings.{PlacedOver, Placed, join_assignments, row_at, rows_from}
use Rattle.hls_block_filling.specs.BasicBlocks.{all_states, basic_block_at, exit_of, is_first_of_block, firsts, items_at}
use Rattle.hls_block_filling.specs.RowMachines.{MoveOver, Move, moves, all_moves, move_transition, transitions_by, state_at, machine_with_rows}
use Rattle.hls_block_filling.specs.MachineSelections.{transition_renumbered}
use Rattle.hls_block_filling.specs.ScheduledMachines.{kept_states}
use Rattle.hls_block_filling.proofs.Among.{Among, joined_from, passes_test, was_among, range_within}
use Rattle.hls_unit_counts.specs.declared.units.Unit.{Unit as Kind}
use Rattle.hls_block_filling.specs.ItemUnits.{Units, none_used, used_by, suffice}
use Rattle.hls_block_filling.specs.Filling.{ItemGraph, graph_of, Rows, is_in, is_before, filling_of, used_below, used_in, EachItemFits, row_or, placed_from}
use Rattle.hls_block_filling.specs.Filling.{placed_by}
use Rattle.hls_block_filling.specs.Filling.{new_rows}
use Rattle.hls_block_filling.proofs.Placings.{suffices, does_suffice, is_filled}
use Rattle.hls_block_filling.specs.Schedules.{IsWithin, rows_by, schedule_of}
use Rattle.hls_block_filling.proofs.Schedules.{each_fits}

-- ---- what a row uses
used_both : (a b : Item) (x : Kind) → used_by (a ++ b) x ≡ used_by a x + used_by b x
used_both [] b x = omega arith
used_both (c ∷ a) b x = omega (arith, used_both a b x)

row_used : (a : Item) (k r : ℕ) (row : List Placed) (x : Kind) (t : Bool) → (k == r) ≡ t
    → used_by (join_assignments (cond t (record { item = a; row = k } ∷ row) row)) x ≡ cond t (used_by a x) 0 + used_by (join_assignments row) x
row_used a k r row x true e = used_both a (join_assignments row) x
row_used a k r row x false e = omega arith

row_step : (a : Item) (r : ℕ) (o : Option ℕ) (row : List Placed) (x : Kind) (n : ℕ) → is_before n o ≡ true
    → used_by (join_assignments (cond (row_or o == r) (record { item = a; row = row_or o } ∷ row) row)) x ≡ cond (is_in r o) (used_by a x) 0
    + used_by (join_assignments row) x
row_step a r None row x n e = absurd (cc e)
row_step a r (Some k) row x n e = row_used a k r row x (k == r) refl

used_more : (y u a w v : ℕ) (b : Bool) → u ≡ a → v ≡ cond b a 0 + w → y + v ≡ y + cond b u 0 + w
used_more y u a w v true e h = omega (arith, e, h)
used_more y u a w v false e h = omega (arith, e, h)

module _ (g : ItemGraph) (item : ℕ → Item) (uses : (i : ℕ) (x : Kind) → g.uses i x ≡ used_by (item i) x) (rows : Rows) (n : ℕ) where
  used_from : (items : List Item) (k r : ℕ) (x : Kind) → ((i : ℕ) → i < length items → item (k + i) ≡ slice_index_or items i [])
      → ((j : ℕ) → j < k + length items → is_before n (rows j) ≡ true)
      → used_below g rows r k x + used_by (join_assignments (row_at r (placed_from k items rows))) x ≡ used_below g rows r (k + length items) x
  used_from [] k r x h b = let e : k + 0 ≡ k = omega arith in rw e (omega arith)
  used_from (a ∷ items) k r x h b =
      let here : item k ≡ a = subst (λ z. item z ≡ a) (let e : k + 0 ≡ k = omega arith in e) (h 0 (omega arith)) in
      let u : g.uses k x ≡ used_by a x = uses k x ∙ ap (λ z. used_by z x) here in
      let s = row_step a r (rows k) (row_at r (placed_from (suc k) items rows)) x n (b k (omega arith)) in
      let rest = used_from items (suc k) r x
      (λ i p. subst (λ z. item z ≡ slice_index_or items i []) (let e : k + suc i ≡ suc k + i = omega arith in e) (h (suc i) (omega (arith, p))))
      (λ j p. b j (omega (arith, p))) in
      used_more (used_below g rows r k x) (g.uses k x) (used_by a x) (used_by (join_assignments (row_at r (placed_from (suc k) items rows))) x)
      (used_by (join_assignments (row_at r (placed_from k (a ∷ items) rows))) x) (is_in r (rows k)) u s
      ∙ rest ∙ ap (λ z. used_below g rows r z x) (let e : suc k + length items ≡ k + suc (length items) = omega arith in e)

abbrev AllRows : Units → List Item → Type 0
AllRows units rows = (a : Item) → Among a rows → suffice units none_used (used_by a) ≡ true

-- a row is the items of one number joined
pub row_joined : {X : Type 0} (ps : List (PlacedOver X)) (n k : ℕ) (a : List (Assignment X)) → Among a (rows_from k n ps)
    → (j : ℕ) × (a ≡ join_assignments (row_at j ps))
row_joined ps zero k a w = absurd w
row_joined ps (suc n) k a (inl e) = (k, e)
row_joined ps (suc n) k a (inr w) = row_joined ps n (suc k) a w

rows_within : (units : Units) (ps : List Placed) → ((r : ℕ) → suffice units none_used (used_by (join_assignments (row_at r ps))) ≡ true) → (n k : ℕ)
    → AllRows units (rows_from k n ps)
rows_within units ps h n k a w = let j = row_joined ps n k a w in subst (λ z. suffice units none_used (used_by z) ≡ true) (sym j.1) (h j.0)

filled_within : (items : List Item) (units : Units) → EachItemFits (graph_of items) units → AllRows units (new_rows units items)
filled_within items units each =
    let f = filling_of (graph_of items) units in
    let w = is_filled (graph_of items) units each in
    rows_within units (placed_by items f)
    (λ r. does_suffice units none_used (used_by (join_assignments (row_at r (placed_by items f)))) (λ x.
    (let e = used_from (graph_of items) (λ i. slice_index_or items i []) (λ i y. refl) f.rows f.count items 0 r x
    (λ i p. ap (λ z. slice_index_or items z []) (let d : 0 + i ≡ i = omega arith in d)) (λ j p. w.placed j (omega (arith, p))) in
    let u : 0 + used_in (graph_of items) f.rows r x ≤ units x = suffices units none_used (used_in (graph_of items) f.rows r) (w.within r) x in
    let v : used_below (graph_of items) f.rows r (0 + length items) x ≡ used_in (graph_of items) f.rows r x =
    ap (λ z. used_below (graph_of items) f.rows r z x) (let d : 0 + length items ≡ length items = omega arith in d) in
    omega (arith, e, u, v))))
    f.count 0

-- ---- from rows to transitions
module _ {X : Type 0} where
  pub move_row : (exit : ℕ) (qs : List ℕ) (rows : List (List (Assignment X))) (x : MoveOver X) → Among x (moves exit qs rows) → Among x.assignments rows
  move_row exit [] rows x h = absurd h
  move_row exit (q ∷ qs) [] x h = absurd h
  move_row exit (q ∷ qs) (a ∷ rows) x (inl e) = inl (ap (λ (z : MoveOver X). z.assignments) e)
  move_row exit (q ∷ qs) (a ∷ rows) x (inr h) = inr (move_row exit qs rows x h)

abbrev Fits : Units → List (Transition ℕ ℕ) → Type 0
Fits units ls = (k : ℕ) (l : Transition ℕ ℕ) → slice_get ls k ≡ Some l → suffice units none_used (used_by l.assignments) ≡ true

one_fits : (units : Units) (x : Move) → suffice units none_used (used_by x.assignments) ≡ true → Fits units (move_transition x ∷ [])
one_fits units x h zero l e = let f : move_transition x ≡ l = cc e in subst (λ (z : Transition ℕ ℕ). suffice units none_used (used_by z.assignments) ≡ true) f h
one_fits units x h (suc k) l e = absurd (cc e)

by_step : (units : Units) (x : Move) (ls : List (Transition ℕ ℕ)) (t : Bool) → suffice units none_used (used_by x.assignments) ≡ true → Fits units ls
    → Fits units (cond t (move_transition x ∷ []) ls)
by_step units x ls true h f = one_fits units x h
by_step units x ls false h f = f

by_fits : (units : Units) (xs : List Move) (q : ℕ) (others : List (Transition ℕ ℕ))
    → ((x : Move) → Among x xs → suffice units none_used (used_by x.assignments) ≡ true) → Fits units others → Fits units (transitions_by xs q others)
by_fits units [] q others h f = f
by_fits units (x ∷ xs) q others h f = by_step units x (transitions_by xs q others) (x.state == q) (h x (inl refl))
    (by_fits units xs q others (λ y w. h y (inr w)) f)

renumbered_fits : (units : Units) (keep : List ℕ) (ls : List (Transition ℕ ℕ)) → Fits units ls → Fits units (map (transition_renumbered keep) ls)
renumbered_fits units keep [] f k l e = absurd (cc e)
renumbered_fits units keep (x ∷ ls) f zero l e = let g : transition_renumbered keep x ≡ l = cc e in
    subst (λ (z : Transition ℕ ℕ). suffice units none_used (used_by z.assignments) ≡ true) g (f 0 x refl)
renumbered_fits units keep (x ∷ ls) f (suc k) l e = renumbered_fits units keep ls (λ j y d. f (suc j) y d) k l e

-- what holds of each of a list of states holds of each place in it
at_fits : (units : Units) (f : ℕ → State) (qs : List ℕ) (p : ℕ) → ((q : ℕ) → Fits units (f q).transitions)
    → Fits units (slice_index_or (map f qs) p (record { name = []; transitions = [] })).transitions
at_fits units f [] p h k l e = absurd (cc e)
at_fits units f (q ∷ qs) zero h k l e = h q k l e
at_fits units f (q ∷ qs) (suc p) h k l e = at_fits units f qs p h k l e

module _ (m : Fsmd) (units : Units) (sound : IsSound m) (within : IsWithin units m) where
  moves_fit : (x : Move) → Among x (all_moves m (rows_by units m)) → suffice units none_used (used_by x.assignments) ≡ true
  moves_fit x h =
      let w = joined_from (λ q. moves (exit_of m q) (basic_block_at m q) (rows_by units m q)) x (firsts m) h in
      let i : w.0 < 0 + length m.states = range_within 0 (length m.states) w.0 (was_among (is_first_of_block m) w.0 (all_states m) w.1) in
      let j : w.0 < length m.states = omega (arith, i) in
      filled_within (items_at m w.0) units (each_fits m units sound within w.0 j (passes_test (is_first_of_block m) w.0 (all_states m) w.1)) x.assignments
      (move_row (exit_of m w.0) (basic_block_at m w.0) (rows_by units m w.0) x w.2)

  replaced_fits : (q : ℕ) → Fits units (transitions_of (machine_with_rows m (rows_by units m)) q)
  replaced_fits q = at_fits units
      (λ k. record { name = (state_at m k).name; transitions = transitions_by (all_moves m (rows_by units m)) k (transitions_of m k) })
      (all_states m) q (λ k. by_fits units (all_moves m (rows_by units m)) k (transitions_of m k) moves_fit (within k))

  pub stays_within : IsWithin units (schedule_of units m)
  stays_within q =
      at_fits units
      (λ k. record {
        name = (state_at (machine_with_rows m (rows_by units m)) k).name;
        transitions = map (transition_renumbered (kept_states m (rows_by units m))) (transitions_of (machine_with_rows m (rows_by units m)) k);
      }) (kept_states m (rows_by units m)) q
      (λ k. renumbered_fits units (kept_states m (rows_by units m)) (transitions_of (machine_with_rows m (rows_by units m)) k) (replaced_fits k))
