-- The scheduled parts break no rule.
use Rattle.std.proofs.Common.{◌≡◌, inl, inr, ℕ, zero, suc, ◌<◌, ◌≤◌, refl, sym, ◌∙◌, ap, subst, arith, true, List, [], ◌∷◌, ◌++◌}
use Rattle.std.proofs.Common.{append_assoc, map, length, Some, None}
use Rattle.std.specs.Prelude.{◌&&◌, not, nat_le, slice_get}
use Rattle.std.proofs.lemmas.List.{same_lists, get_or-map}
use Rattle.std.proofs.lemmas.List.Sums.{length-filter, count_by-le-length}
use Rattle.std.proofs.lemmas.List.FromFn.{length-range_with_len, length-map-range_with_len, get_or-map-range_with_len}
use Rattle.std.proofs.lemmas.Option.{same_Some}
use Rattle.std.proofs.lemmas.Bool.{le-leb}
use Rattle.fs_model.proofs.Lists.{length_map, map_map}
use Rattle.fs_model.specs.Limits.{most_states, most_branches, most_emits}
use Rattle.fs_model.specs.Expressions.{Assignment, Transition}
use Rattle.fs_model.specs.PartFolds.{Listing, scalars, arrays, uses_in_assignment, uses_in_assignments}
use Rattle.fs_model.specs.Source.{Source}
use Rattle.fs_model.specs.Machines.{State, Fsmd, transitions_of}
use Rattle.fs_model.specs.Trees.{branches_of}
use Rattle.fs_rules.specs.MachineOfParts.{machine_of}
use Rattle.fs_model.specs.SoundMachines.{IsSound, scalar_at, array_at, port_at, input_at, changed_by, assigned_in, all_differ, scalars_in_condition}
use Rattle.fs_model.specs.SoundMachines.{arrays_in_condition, scalars_in_assignments, arrays_in_assignments, port_in, ports_in_assignments, emit_count}
use Rattle.fs_model.specs.SoundMachines.{names_differ}
use Rattle.fs_model.specs.SoundMachines.{is_open, ends_open, branch_count}
use Rattle.fs_rules.specs.Rules.{IsEndless, BreaksNoRule}
use Rattle.fs_ast.proofs.Kept.{no_state, get_mapped}
use Rattle.fs_ast.proofs.Repeats.{kept_differ}
use Rattle.fs_ast.proofs.Faultless.{IsFaultless, of_sound}
use Rattle.fs_ast.proofs.LawfulParts.{KeepsRules, lawful_where}
use Rattle.hls_block_filling.specs.Items.{Item}
use Rattle.hls_block_filling.specs.Placings.{is_valid, join_assignments, row_at}
use Rattle.hls_block_filling.proofs.Once.{assigns_once}
use Rattle.hls_block_filling.proofs.Emits.{emits_few}
use Rattle.hls_block_filling.specs.ItemUnits.{Units}
use Rattle.hls_block_filling.specs.Filling.{graph_of, filling_of, placed_by}
use Rattle.hls_block_filling.proofs.Lists.{placed_valid}
use Rattle.hls_block_filling.specs.BasicBlocks.{all_states, basic_block_at, exit_of, is_first_of_block, firsts, item_of, items_at}
use Rattle.hls_block_filling.specs.RowMachines.{Move, moves, all_moves, move_transition, transitions_by, state_at, machine_with_rows, KeepsStores}
use Rattle.hls_block_filling.specs.MachineSelections.{selected_place, transition_renumbered, IsClosedUnderTargets}
use Rattle.hls_block_filling.specs.ScheduledMachines.{is_kept, kept_states}
use Rattle.hls_block_filling.proofs.Among.{Among, passes_test, joined_from, occurs_among}
use Rattle.hls_block_filling.proofs.Selecting.{place_below}
use Rattle.hls_block_filling.proofs.Replacing.{Does, does}
use Rattle.hls_block_filling.proofs.Dropping.{Kind, of_kept, stays, closed}
use Rattle.hls_block_filling.proofs.Ends.{same_branches, nowhere_endless}
use Rattle.hls_block_filling.specs.Schedules.{IsWithin, rows_by, schedule_of}
use Rattle.hls_block_filling.proofs.Schedules.{its_block, each_fits, keeps_stores}
use Rattle.hls_block_filling.proofs.Within.{move_row, row_joined}
use Rattle.hls_block_filling.specs.Sources.{scheduled_source}
use Rattle.hls_block_filling.proofs.MappedLists.{among_mapped, each_at, each_below}
use Rattle.hls_block_filling.proofs.Found.{first_is, block_is}
use Rattle.hls_block_filling.proofs.Passing.{all_behind, placed_pass, row_passes}
use Rattle.hls_block_filling.proofs.Spelling.{spells}

-- ---- what joined assignments use
uses_joined : (u : Listing ℕ) (a b : Item) → uses_in_assignments u (a ++ b) ≡ uses_in_assignments u a ++ uses_in_assignments u b
uses_joined u [] b = refl
uses_joined u (c ∷ a) b = ap (λ (r : List ℕ). uses_in_assignment u c ++ r) (uses_joined u a b)
    ∙ sym (append_assoc (uses_in_assignment u c) (uses_in_assignments u a) (uses_in_assignments u b))

ports_joined : (a b : Item) → ports_in_assignments (a ++ b) ≡ ports_in_assignments a ++ ports_in_assignments b
ports_joined [] b = refl
ports_joined (c ∷ a) b = ap (λ (r : List ℕ). port_in c ++ r) (ports_joined a b)
    ∙ sym (append_assoc (port_in c) (ports_in_assignments a) (ports_in_assignments b))

-- ---- renumbered transitions
open_renumbered : (keep : List ℕ) (ls : List (Transition ℕ ℕ)) → ends_open (map (transition_renumbered keep) ls) ≡ ends_open ls
open_renumbered keep [] = refl
open_renumbered keep (l ∷ []) = refl
open_renumbered keep (l ∷ k ∷ ls) = ap (λ b. not (is_open l) && b) (open_renumbered keep (k ∷ ls))

module _ (m : Fsmd) (units : Units) (sound : IsSound m) (within : IsWithin units m) where
  abbrev rows : ℕ → List Item
  rows = rows_by units m

  abbrev keep : List ℕ
  keep = kept_states m rows

  abbrev New : Fsmd
  New = machine_with_rows m rows

  keeps : KeepsStores m rows
  keeps = keeps_stores m units sound within

  shut : IsClosedUnderTargets New keep
  shut = closed m sound rows keeps

  -- ---- rows
  item_faultless : (q : ℕ) → Among q (firsts m) → (a : Item) → Among a (items_at m q) → IsFaultless m.variables None a
  item_faultless q w a v =
      let r = among_mapped (item_of m) (basic_block_at m q) a v in
      let s = block_is m sound q r.0 w r.1 in
      let l = its_block m sound r.0 s.within s.in_block in
      let t = sound.transitions_sound r.0 l.0 0 (ap (λ ls. slice_get ls 0) l.1) in
      let f : IsFaultless m.variables None l.0.assignments = record {
        scalars = all_behind (scalar_at m.variables) (scalars_in_condition l.0.guard) (scalars_in_assignments l.0.assignments) t.scalars;
        arrays = all_behind (array_at m.variables) (arrays_in_condition l.0.guard) (arrays_in_assignments l.0.assignments) t.arrays;
        ports = t.ports;
        inputs_stay = t.inputs_stay;
        assigned_once = t.assigned_once;
        few_emits = t.few_emits;
      } in
      subst (λ z. IsFaultless m.variables None z) (sym (r.2 ∙ l.2)) f

  row_faultless : (q k : ℕ) → Among q (firsts m)
      → IsFaultless m.variables None (join_assignments (row_at k (placed_by (items_at m q) (filling_of (graph_of (items_at m q)) units))))
  row_faultless q k w =
      let items = items_at m q in
      let g = filling_of (graph_of items) units in
      let s = first_is m sound q w in
      let valid : is_valid (placed_by items g) ≡ true = placed_valid items units
      (each_fits m units sound within q s.within (passes_test (is_first_of_block m) q (all_states m) w)) in
      record {
        scalars = row_passes (scalar_at m.variables) scalars_in_assignments refl (uses_joined scalars) items g k (λ a v. (item_faultless q w a v).scalars);
        arrays = row_passes (array_at m.variables) arrays_in_assignments refl (uses_joined arrays) items g k (λ a v. (item_faultless q w a v).arrays);
        ports = row_passes (port_at m.variables) ports_in_assignments refl ports_joined items g k (λ a v. (item_faultless q w a v).ports);
        inputs_stay = row_passes (λ (a : Assignment ℕ). not (input_at m.variables (changed_by a)))
            (λ a. a) refl (λ a b. refl) items g k (λ a v. (item_faultless q w a v).inputs_stay);
        assigned_once = assigns_once (placed_by items g) k valid
            (placed_pass (λ a. all_differ (assigned_in a)) items 0 g.rows (λ a v. (item_faultless q w a v).assigned_once));
        few_emits = emits_few (placed_by items g) k most_emits valid
            (placed_pass (λ a. nat_le (emit_count a) most_emits) items 0 g.rows (λ a v. le-leb (emit_count a) most_emits (item_faultless q w a v).few_emits));
      }

  move_faultless : (x : Move) → Among x (all_moves m rows) → IsFaultless m.variables None x.assignments
  move_faultless x h =
      let w = joined_from (λ q. moves (exit_of m q) (basic_block_at m q) (rows q)) x (firsts m) h in
      let g = filling_of (graph_of (items_at m w.0)) units in
      let j = row_joined (placed_by (items_at m w.0) g) g.count 0 x.assignments (move_row (exit_of m w.0) (basic_block_at m w.0) (rows w.0) x w.2) in
      subst (λ z. IsFaultless m.variables None z) (sym j.1) (row_faultless w.0 j.0 w.1)

  -- ---- the states that are kept
  only_block : (x : Move) (k : ℕ) (l : Transition ℕ ℕ) → slice_get (move_transition x ∷ []) k ≡ Some l → IsFaultless m.variables None x.assignments
      → IsFaultless m.variables l.guard l.assignments
  only_block x zero l e f = subst (λ (z : Transition ℕ ℕ). IsFaultless m.variables z.guard z.assignments) (same_Some (move_transition x) l e) f
  only_block x (suc k) l e f = absurd (cc e)

  moved_blocks : (q : ℕ) (x : Move) → Among x (all_moves m rows) → x.state ≡ q → transitions_of New q ≡ move_transition x ∷ []
  moved_blocks q x h e = let d : Does New x = does m sound rows keeps x h in subst (λ z. transitions_of New z ≡ move_transition x ∷ []) e d.0

  block_by : (q k : ℕ) (l : Transition ℕ ℕ) → q < length m.states → Kind m sound rows keeps q → slice_get (transitions_of New q) k ≡ Some l
      → IsFaultless m.variables l.guard l.assignments
  block_by q k l h (inl e) f = of_sound m.variables (length m.states) l
      (sound.transitions_sound q l k (subst (λ z. slice_get z k ≡ Some l) (stays m sound rows keeps q h e) f))
  block_by q k l h (inr x) f = only_block x.0 k l (subst (λ z. slice_get z k ≡ Some l) (moved_blocks q x.0 x.1 x.2) f) (move_faultless x.0 x.1)

  few_by : (q : ℕ) → q < length m.states → Kind m sound rows keeps q → length (branches_of (transitions_of New q)) ≤ most_branches
  few_by q h (inl e) = subst (λ z. length (branches_of z) ≤ most_branches) (sym (stays m sound rows keeps q h e)) (sound.few_branches q)
  few_by q h (inr x) = subst (λ z. length (branches_of z) ≤ most_branches) (sym (moved_blocks q x.0 x.1 x.2)) (let one : 1 ≤ most_branches = omega arith in one)

  -- ---- the scheduled machine
  abbrev S : Fsmd
  S = schedule_of units m

  abbrev selected_state : ℕ → State
  selected_state q = record { name = (state_at New q).name; transitions = map (transition_renumbered keep) (transitions_of New q) }

  state_count : length S.states ≡ length keep
  state_count = length_map selected_state keep

  faultless : (q k : ℕ) (l : Transition ℕ ℕ) → slice_get (transitions_of S q) k ≡ Some l → IsFaultless m.variables l.guard l.assignments
  faultless q =
      each_at (λ (s : State). (k : ℕ) (l : Transition ℕ ℕ) → slice_get s.transitions k ≡ Some l → IsFaultless m.variables l.guard l.assignments) selected_state
      keep q no_state
      (λ r w k l e.
      let x = get_mapped (transition_renumbered keep) (transitions_of New r) k l e in
      let o = of_kept m sound rows keeps r (occurs_among r keep w) in
      subst (λ (z : Transition ℕ ℕ). IsFaultless m.variables z.guard z.assignments) (sym x.1.1) (block_by r k x.0 o.within o.kind x.1.0))
      (λ k l e. absurd (cc e))

  leads_in : (q k : ℕ) (l : Transition ℕ ℕ) → slice_get (transitions_of S q) k ≡ Some l → l.target < length S.states
  leads_in q =
      each_at (λ (s : State). (k : ℕ) (l : Transition ℕ ℕ) → slice_get s.transitions k ≡ Some l → l.target < length S.states) selected_state keep q no_state
      (λ r w k l e.
      let x = get_mapped (transition_renumbered keep) (transitions_of New r) k l e in
      let low : selected_place keep x.0.target < length keep = place_below keep x.0.target (shut.leads r x.0 k (occurs_among r keep w) x.1.0) in
      subst (λ (z : Transition ℕ ℕ). z.target < length S.states) (sym x.1.1) (omega (arith, low, state_count)))
      (λ k l e. absurd (cc e))

  open_last : (q : ℕ) → q < length S.states → ends_open (transitions_of S q) ≡ true
  open_last q h =
      each_below (λ (s : State). ends_open s.transitions ≡ true) selected_state keep q no_state (omega (arith, h, state_count))
      (λ r w. open_renumbered keep (transitions_of New r) ∙ shut.goes_on r (occurs_among r keep w))

  few_branches : (q : ℕ) → branch_count S q ≤ most_branches
  few_branches q =
      each_at (λ (s : State). length (branches_of s.transitions) ≤ most_branches) selected_state keep q no_state
      (λ r w. let o = of_kept m sound rows keeps r (occurs_among r keep w) in let few = few_by r o.within o.kind in
      omega (arith, few, same_branches keep (transitions_of New r)))
      (let none : 0 ≤ most_branches = omega arith in none)

  -- ---- names
  new_name : (q : ℕ) → q < length m.states → (state_at New q).name ≡ (state_at m q).name
  new_name q h =
      ap (λ (s : State). s.name)
      (get_or-map-range_with_len (λ k. record { name = (state_at m k).name; transitions = transitions_by (all_moves m rows) k (transitions_of m k) }) 0
      (length m.states) q q no_state h (omega arith))

  all_names : map (λ q. (state_at New q).name) (all_states m) ≡ map (λ (s : State). s.name) m.states
  all_names =
      let long = length-map-range_with_len (λ q. (state_at New q).name) 0 (length m.states) in
      let same = length_map (λ (s : State). s.name) m.states in
      same_lists (map (λ q. (state_at New q).name) (all_states m)) (map (λ (s : State). s.name) m.states) (omega (arith, long, same))
      (λ k d h.
      let i : k < length m.states = omega (arith, h, long) in
      get_or-map-range_with_len (λ q. (state_at New q).name) 0 (length m.states) k k d i (omega arith) ∙ new_name k i
      ∙ sym (get_or-map (λ (s : State). s.name) m.states k no_state d i))

  states_differ : names_differ (map (λ (s : State). s.name) S.states) ≡ true
  states_differ =
      ap names_differ (map_map (λ (s : State). s.name) selected_state keep)
      ∙ kept_differ (λ q. (state_at New q).name) (is_kept m rows) (all_states m) (ap names_differ all_names ∙ sound.states_differ)

  few_states : length S.states ≤ most_states
  few_states =
      let few = sound.few_states in
      omega (
        arith,
        state_count,
        length-filter (is_kept m rows) (all_states m),
        count_by-le-length (is_kept m rows) (all_states m),
        length-range_with_len 0 (length m.states),
        few,
      )

  keeps_rules : KeepsRules S
  keeps_rules = record {
    few_variables = sound.few_variables;
    few_states = few_states;
    variables_differ = sound.variables_differ;
    states_differ = states_differ;
    reset_in = let low = place_below keep m.reset shut.reset in omega (arith, low, state_count);
    faultless = faultless;
    leads_in = leads_in;
    open_last = open_last;
    few_branches = few_branches;
  }

  never_endless : (q : ℕ) → q < length S.states → IsEndless S q → ⊥
  never_endless q h e = nowhere_endless m sound rows keeps q (omega (arith, h, state_count)) e

pub scheduled_lawful : (units : Units) (p : Source) → IsSound (machine_of p) → IsWithin units (machine_of p)
    → BreaksNoRule (scheduled_source units p (machine_of p))
scheduled_lawful units p sound within =
    let same = sym (spells units p sound) in
    lawful_where (scheduled_source units p (machine_of p)) (subst (λ (k : Fsmd). KeepsRules k) same (keeps_rules (machine_of p) units sound within))
    (subst (λ (k : Fsmd). (q : ℕ) → q < length k.states → IsEndless k q → ⊥) same (never_endless (machine_of p) units sound within))
