-- The scheduled parts spell the scheduled machine.
use Rattle.std.proofs.Common.{◌≡◌, inl, inr, ℕ, zero, suc, ◌+◌, ◌<◌, refl, sym, ◌∙◌, ap, ap₂, arith, Bool, true, false, List, [], ◌∷◌, map, length, Option}
use Rattle.std.proofs.Common.{Some, None, is_some}
use Rattle.std.specs.Prelude.{◌==◌, ◌||◌, not, cond}
use Rattle.std.specs.List.{slice_index_or, list_any, flat_map}
use Rattle.std.specs.Str.{bytes_eq}
use Rattle.std.proofs.lemmas.Bool.Decides.{nat_tests}
use Rattle.std.proofs.lemmas.Slice.Eq.{bytes_eq-Decides}
use Rattle.std.proofs.lemmas.List.FromFn.{get_or-map-range_with_len}
use Rattle.std.proofs.Math.ListN.{get_or-map}
use Rattle.std.proofs.lemmas.Bool.{false_from_ne_true, not-true}
use Rattle.fs_model.proofs.Booleans.{and_first, and_second}
use Rattle.fs_model.proofs.Numbers.{eqb_suc}
use Rattle.fs_model.proofs.Lists.{length_map, map_map}
use Rattle.fs_model.proofs.Quantifiers.{list_any_map}
use Rattle.fs_model.specs.Expressions.{Transition}
use Rattle.fs_model.specs.Source.{SourceTransition, SourceState, Source}
use Rattle.fs_model.specs.Machines.{State, Fsmd, transitions_of}
use Rattle.fs_rules.specs.MachineOfParts.{place_or_end, variables_of, state_names, transition_spelled, state_spelled, machine_of}
use Rattle.fs_model.specs.SoundMachines.{IsSound, names_differ}
use Rattle.fs_ast.proofs.Repeats.{is_listed}
use Rattle.hls_block_filling.specs.Items.{Item}
use Rattle.hls_block_filling.specs.BasicBlocks.{all_states, is_in_block}
use Rattle.hls_block_filling.specs.RowMachines.{Move, MoveOver, all_moves, move_transition, transitions_by, state_at, machine_with_rows}
use Rattle.hls_block_filling.specs.MachineSelections.{selected_place, transition_renumbered}
use Rattle.hls_block_filling.specs.ScheduledMachines.{is_kept, kept_states}
use Rattle.hls_block_filling.proofs.Among.{Among, was_among, range_within, any_of}
use Rattle.hls_block_filling.proofs.Trails.{member}
use Rattle.hls_block_filling.specs.ItemUnits.{Units}
use Rattle.hls_block_filling.specs.Schedules.{rows_by, schedule_of}
use Rattle.hls_block_filling.specs.SourceRows.{source_state, named_moves, RowEffect, first_row_effect}
use Rattle.hls_block_filling.specs.Sources.{state_with_row, state_by, states_by, scheduled_source}
use Rattle.hls_block_filling.proofs.MappedLists.{map_same, flat_same, flat_kept}
use Rattle.hls_block_filling.proofs.Found.{any_found, found_leads_in}
use Rattle.hls_block_filling.proofs.Named.{item_over, move_over, M, names, stated, spelled_at, lines_at, moves_are}

-- ---- places of names that differ
first_place : (t : Bool) (j : ℕ) → t ≡ (0 == cond {A = ℕ} t 0 (suc j))
first_place true j = refl
first_place false j = let e : (0 == suc j) ≡ false = grind (arith, nat_tests) in sym e

later_place : (x : List ℕ) (xs : List (List ℕ)) (k : ℕ) (n : List ℕ) (t : Bool) → bytes_eq x n ≡ t → is_listed x xs ≡ false → k < length xs
    → bytes_eq (slice_index_or xs k []) n ≡ (k == place_or_end xs n)
    → bytes_eq (slice_index_or xs k []) n ≡ (suc k == cond {A = ℕ} t 0 (suc (place_or_end xs n)))
later_place x xs k n true e d h ih =
    let same : x ≡ n = (bytes_eq-Decides x n).0 e in
    let zero_not : (suc k == 0) ≡ false = grind (arith, nat_tests) in
    let other : bytes_eq (slice_index_or xs k []) n ≡ false =
    false_from_ne_true (bytes_eq (slice_index_or xs k []) n) (λ f.
    let there : is_listed n xs ≡ true = any_of (λ y. bytes_eq y n) (slice_index_or xs k []) xs (member xs k [] h) f in
    let here : is_listed x xs ≡ true = ap (λ z. is_listed z xs) same ∙ there in
    cc (sym d ∙ here)) in
    other ∙ sym zero_not
later_place x xs k n false e d h ih = ih ∙ eqb_suc k (place_or_end xs n)

test_at : (ss : List (List ℕ)) (k : ℕ) (n : List ℕ) → names_differ ss ≡ true → k < length ss → bytes_eq (slice_index_or ss k []) n ≡ (k == place_or_end ss n)
test_at [] k n d h = absurd (omega (arith, h))
test_at (x ∷ xs) zero n d h = first_place (bytes_eq x n) (place_or_end xs n)
test_at (x ∷ xs) (suc k) n d h =
    later_place x xs k n (bytes_eq x n) refl (not-true (is_listed x xs) (and_first (not (is_listed x xs)) (names_differ xs) d)) (omega (arith, h))
    (test_at xs k n (and_second (not (is_listed x xs)) (names_differ xs) d) (omega (arith, h)))

place_own : (ss : List (List ℕ)) (k : ℕ) → names_differ ss ≡ true → k < length ss → place_or_end ss (slice_index_or ss k []) ≡ k
place_own ss k d h =
    let own : bytes_eq (slice_index_or ss k []) (slice_index_or ss k []) ≡ true = (bytes_eq-Decides (slice_index_or ss k []) (slice_index_or ss k [])).1 refl in
    let e : (k == place_or_end ss (slice_index_or ss k [])) ≡ true = sym (test_at ss k (slice_index_or ss k []) d h) ∙ own in
    grind (arith, nat_tests, e)

-- among the names of some states a name has the place of its state among these
place_kept : (ss : List (List ℕ)) (keep : List ℕ) (n : List ℕ) → names_differ ss ≡ true → ((k : ℕ) → Among k keep → k < length ss)
    → place_or_end (map (λ k. slice_index_or ss k []) keep) n ≡ selected_place keep (place_or_end ss n)
place_kept ss [] n d h = refl
place_kept ss (k ∷ keep) n d h = ap₂ (λ (t : Bool) (j : ℕ). cond {A = ℕ} t 0 (suc j)) (test_at ss k n d (h k (inl refl)))
    (place_kept ss keep n d (λ j w. h j (inr w)))

-- ---- a state that is kept
abbrev moved_by : Source → ℕ → Option RowEffect → SourceState
moved_by p q None = source_state p q
moved_by p q (Some d) = state_with_row p (source_state p q) d

kept_name : (p : Source) (q : ℕ) (o : Option RowEffect) → (moved_by p q o).name ≡ (source_state p q).name
kept_name p q None = refl
kept_name p q (Some d) = refl

none_is : {A : Type 0} (t : Bool) (s : A) → cond t [] (s ∷ []) ≡ cond (not t || false) (s ∷ []) []
none_is true s = refl
none_is false s = refl

some_is : {A : Type 0} (t : Bool) (s : A) → s ∷ [] ≡ cond (not t || true) (s ∷ []) []
some_is true s = refl
some_is false s = refl

state_is : (p : Source) (m : Fsmd) (q : ℕ) (o : Option RowEffect) → state_by p m q o ≡ cond (not (is_in_block m q) || is_some o) (moved_by p q o ∷ []) []
state_is p m q None = none_is (is_in_block m q) (source_state p q)
state_is p m q (Some d) = some_is (is_in_block m q) (state_with_row p (source_state p q) d)

-- ---- its transitions
abbrev lines_as : (List ℕ → ℕ) → Option RowEffect → List (Transition ℕ ℕ) → List (Transition ℕ ℕ)
lines_as f None others = others
lines_as f (Some d) others = record { guard = None; target = d.1; assignments = item_over f d.0 } ∷ []

blocks_step : (f : List ℕ → ℕ) (x : MoveOver (List ℕ)) (rest : List (Transition ℕ ℕ)) (o : Option RowEffect) (others : List (Transition ℕ ℕ)) (t : Bool)
    → rest ≡ lines_as f o others → cond t (move_transition (move_over f x) ∷ []) rest ≡ lines_as f (cond t (Some (x.assignments, x.target)) o) others
blocks_step f x rest o others true e = refl
blocks_step f x rest o others false e = e

blocks_found : (f : List ℕ → ℕ) (xs : List (MoveOver (List ℕ))) (q : ℕ) (others : List (Transition ℕ ℕ))
    → transitions_by (map (move_over f) xs) q others ≡ lines_as f (first_row_effect xs q) others
blocks_found f [] q others = refl
blocks_found f (x ∷ xs) q others = blocks_step f x (transitions_by (map (move_over f) xs) q others) (first_row_effect xs q) others (x.state == q)
    (blocks_found f xs q others)

abbrev state_with : List ℕ → List (Transition ℕ ℕ) → State
state_with name lines = record { name = name; transitions = lines }

module _ (units : Units) (p : Source) (sound : IsSound (machine_of p)) where
  abbrev rows : ℕ → List Item
  rows = rows_by units (M p)

  abbrev keep : List ℕ
  keep = kept_states (M p) rows

  abbrev New : Fsmd
  New = machine_with_rows (M p) rows

  abbrev to : ℕ → Option RowEffect
  to = first_row_effect (named_moves units p (M p))

  abbrev kept_state : ℕ → SourceState
  kept_state q = moved_by p q (to q)

  -- ---- which states are kept
  kept_test : (q : ℕ) → (not (is_in_block (M p) q) || is_some (to q)) ≡ is_kept (M p) rows q
  kept_test q =
      ap (λ b. not (is_in_block (M p) q) || b)
      (any_found (named_moves units p (M p)) q
      ∙ sym (list_any_map (λ (x : Move). x.state == q) (move_over (place_or_end (names p))) (named_moves units p (M p)))
      ∙ ap (list_any (λ (x : Move). x.state == q)) (sym (moves_are p sound units)))

  states_are : flat_map (states_by p (M p) to) (all_states (M p)) ≡ map kept_state keep
  states_are =
      flat_same (states_by p (M p) to) (λ q. cond (is_kept (M p) rows q) (kept_state q ∷ []) []) (all_states (M p))
      (λ q w. state_is p (M p) q (to q) ∙ ap (λ t. cond t (kept_state q ∷ []) []) (kept_test q))
      ∙ flat_kept (is_kept (M p) rows) kept_state (all_states (M p))

  keep_in : (q : ℕ) → Among q keep → q < length (M p).states
  keep_in q w = let i : q < 0 + length (M p).states = range_within 0 (length (M p).states) q (was_among (is_kept (M p) rows) q (all_states (M p)) w) in
      omega (arith, i)

  -- ---- names
  differ : names_differ (stated p) ≡ true
  differ = ap names_differ (sym (map_map (λ (s : State). s.name) (state_spelled (names p) (stated p)) p.states)) ∙ sound.states_differ

  stated_in : (q : ℕ) → q < length (M p).states → q < length (stated p)
  stated_in q h =
      let a = length_map (state_spelled (names p) (stated p)) p.states in
      let b = length_map (λ (s : SourceState). s.name) p.states in
      omega (arith, h, a, b)

  name_at : (q : ℕ) → slice_index_or (stated p) q [] ≡ (source_state p q).name
  name_at q = get_or-map (λ (s : SourceState). s.name) p.states q (record { line = 0; name = []; transitions = [] })

  abbrev new_names : List (List ℕ)
  new_names = state_names (map kept_state keep)

  names_kept : new_names ≡ map (λ k. slice_index_or (stated p) k []) keep
  names_kept =
      map_map (λ (s : SourceState). s.name) kept_state keep
      ∙ map_same (λ q. (kept_state q).name) (λ k. slice_index_or (stated p) k []) keep (λ q w. kept_name p q (to q) ∙ sym (name_at q))

  place_new : (n : List ℕ) → place_or_end new_names n ≡ selected_place keep (place_or_end (stated p) n)
  place_new n = ap (λ ns. place_or_end ns n) names_kept ∙ place_kept (stated p) keep n differ (λ k w. stated_in k (keep_in k w))

  -- ---- one state
  block_new : (l : SourceTransition) → transition_spelled (names p) new_names l ≡ transition_renumbered keep (transition_spelled (names p) (stated p) l)
  block_new l = let old = transition_spelled (names p) (stated p) l in
      ap (λ (t : ℕ). record { guard = old.guard; target = t; assignments = old.assignments }) (place_new l.content.target)

  lines_kept : (q : ℕ) (o : Option RowEffect) → ((d : RowEffect) → o ≡ Some d → d.1 < length (M p).states)
      → map (transition_spelled (names p) new_names) (moved_by p q o).transitions ≡ map (transition_renumbered keep)
      (lines_as (place_or_end (names p)) o (transitions_of (M p) q))
  lines_kept q None h =
      map_same (transition_spelled (names p) new_names) (λ l. transition_renumbered keep (transition_spelled (names p) (stated p) l))
      (source_state p q).transitions (λ l w. block_new l)
      ∙ sym (map_map (transition_renumbered keep) (transition_spelled (names p) (stated p)) (source_state p q).transitions)
      ∙ ap (map (transition_renumbered keep)) (sym (lines_at p q))
  lines_kept q (Some d) h =
      let own : place_or_end (stated p) (source_state p d.1).name ≡ d.1 = ap (place_or_end (stated p)) (sym (name_at d.1))
      ∙ place_own (stated p) d.1 differ (stated_in d.1 (h d refl)) in
      ap (λ (t : ℕ). record { guard = None; target = t; assignments = item_over (place_or_end (names p)) d.0 } ∷ [])
      (place_new (source_state p d.1).name ∙ ap (selected_place keep) own)

  new_at : (q : ℕ) → q < length (M p).states
      → state_at New q ≡ state_with (state_at (M p) q).name (transitions_by (all_moves (M p) rows) q (transitions_of (M p) q))
  new_at q h =
      get_or-map-range_with_len (λ k. state_with (state_at (M p) k).name (transitions_by (all_moves (M p) rows) k (transitions_of (M p) k))) 0
      (length (M p).states) q q (record { name = []; transitions = [] }) h (omega arith)

  new_blocks : (q : ℕ) → q < length (M p).states → transitions_of New q ≡ lines_as (place_or_end (names p)) (to q) (transitions_of (M p) q)
  new_blocks q h =
      ap (λ (s : State). s.transitions) (new_at q h)
      ∙ ap (λ xs. transitions_by xs q (transitions_of (M p) q)) (moves_are p sound units)
      ∙ blocks_found (place_or_end (names p)) (named_moves units p (M p)) q (transitions_of (M p) q)

  state_new : (q : ℕ) → Among q keep → state_spelled (names p) new_names (kept_state q)
      ≡ state_with (state_at New q).name (map (transition_renumbered keep) (transitions_of New q))
  state_new q w =
      ap₂ state_with
      (kept_name p q (to q) ∙ ap (λ (s : State). s.name) (sym (spelled_at p q)) ∙ ap (λ (s : State). s.name) (sym (new_at q (keep_in q w))))
      (lines_kept q (to q) (λ d e. found_leads_in (M p) sound units p q d e) ∙ ap (map (transition_renumbered keep)) (sym (new_blocks q (keep_in q w))))

  -- ---- the whole
  abbrev machine_with : ℕ → List State → Fsmd
  machine_with reset states = record { variables = variables_of p.declarations; reset = reset; states = states }

  pub spells : machine_of (scheduled_source units p (M p)) ≡ schedule_of units (M p)
  spells =
      ap (λ (ss : List SourceState). machine_with (place_or_end (state_names ss) p.reset) (map (state_spelled (names p) (state_names ss)) ss)) states_are
      ∙ ap₂ machine_with (place_new p.reset)
      (map_map (state_spelled (names p) new_names) kept_state keep
      ∙ map_same (λ q. state_spelled (names p) new_names (kept_state q))
      (λ q. state_with (state_at New q).name (map (transition_renumbered keep) (transitions_of New q))) keep state_new)
