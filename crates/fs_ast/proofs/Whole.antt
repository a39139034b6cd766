-- From the parts of a text to a machine that keeps all rules.
use Rattle.std.proofs.Common.{◌≡◌, ℕ, zero, suc, ◌<◌, ◌≤◌, Bool, true, List, [], ◌∷◌, ◌++◌, length, refl, sym, ◌∙◌, ap, ap₂, arith}
use Rattle.std.specs.Prelude.{◌||◌, ◌==◌, nat_lt, Option, Some, None, map, slice_get}
use Rattle.std.specs.List.{list_all, flat_map, slice_index_or}
use Rattle.std.specs.Option.{option_to_list}
use Rattle.std.proofs.lemmas.Bool.{and_parts, ltb-true}
use Rattle.fs_model.proofs.Lists.{element_at, length_map, map_map}
use Rattle.fs_model.specs.declared.parts.VarInfo.{VarInfo}
use Rattle.fs_model.specs.declared.parts.RawState.{RawState}
use Rattle.fs_model.specs.Source.{SourceState, Source}
use Rattle.fs_model.specs.View.{source_state_of}
use Rattle.fs_model.specs.Machines.{State, Fsmd, transitions_of}
use Rattle.fs_model.specs.Trees.{branches_of}
use Rattle.fs_rules.specs.declared.check.CheckRule.TheVariants.{EndlessLine}
use Rattle.fs_rules.specs.declared.check.CheckFault.{CheckFault}
use Rattle.fs_branches.specs.declared.resolve.State.{State as NumberedState}
use Rattle.fs_rules.specs.MachineOfParts.{variables_of, names_of, state_names, place_or_end, machine_of}
use Rattle.fs_model.specs.SoundMachines.{first_transition_target, is_cutpoint, reaches_cutpoint}
use Rattle.fs_rules.specs.Rules.{at_lines, branch_faults}
use Rattle.fs_rules.specs.FirstFault.{sooner, earliest}
use Rattle.fs_branches.specs.NumberedParts.{resolved_state, state_with_line, spelled_state_with_line, states_with_lines}
use Rattle.fs_ast.specs.Shapes.{skeleton, forked_faults, endless_faults, LeadOn, IsFirstOfShapes}
use Rattle.fs_rules.specs.Scopes.{IsScopeOf}
use Rattle.fs_rules.proofs.Turns.{flat_map_map}
use Rattle.fs_ast.proofs.Kept.{AreKept, count_variables, count_states, lead_on, no_state}

-- ---- what was noted

some_first : (f : CheckFault) (fs : List CheckFault) → earliest (Some f) fs ≡ None → ⊥
some_first f [] e = cc
some_first f (g ∷ fs) e = some_first (sooner (Some f) g) fs e

pub nothing_noted : (known : Option CheckFault) (fs : List CheckFault) → earliest known fs ≡ None → (known ≡ None) × (fs ≡ [])
nothing_noted known [] e = (e, refl)
nothing_noted known (f ∷ fs) e = absurd (some_first (sooner known f) fs e)

-- ---- names

pub few_vars : (p : Source) (vars : List VarInfo) (states : List SourceState) → IsScopeOf p vars states → AreKept p → length vars ≤ 128
few_vars p vars states s k = let h = count_variables p k in let e : length vars ≡ length (variables_of p.declarations) = ap length s.vars in omega arith

pub few_stated : (p : Source) (vars : List VarInfo) (states : List RawState) → IsScopeOf p vars (map source_state_of states) → AreKept p → length states ≤ 4096
few_stated p vars states s k =
    let h = count_states p k in
    let e : length (map source_state_of states) ≡ length p.states = ap length s.stated in
    let f : length (map source_state_of states) ≡ length states = length_map source_state_of states in
    omega arith

-- ---- states

pub placed_is : (p : Source) (vars : List VarInfo) (states : List SourceState) (resolved : List NumberedState) → IsScopeOf p vars states
    → map state_with_line resolved ≡ map (spelled_state_with_line (names_of vars) (state_names states)) p.states
    → map state_with_line resolved ≡ states_with_lines p
placed_is p vars states resolved s e = e
    ∙ ap₂ (λ (v : List VarInfo) (n : List SourceState). map (spelled_state_with_line (names_of v) (state_names n)) p.states) s.vars s.stated

pub placed_states : (p : Source) → map (λ s. s.1) (states_with_lines p) ≡ (machine_of p).states
placed_states p = map_map (λ s. s.1) (spelled_state_with_line (names_of (variables_of p.declarations)) (state_names p.states)) p.states

pub states_are : (p : Source) (resolved : List NumberedState) → map state_with_line resolved ≡ states_with_lines p
    → map resolved_state resolved ≡ (machine_of p).states
states_are p resolved e = sym (map_map (λ s. s.1) state_with_line resolved) ∙ ap (λ l. map (λ s. s.1) l) e ∙ placed_states p

pub machine_is : (p : Source) (vars : List VarInfo) (states : List SourceState) (resolved : List NumberedState) (reset : ℕ) → IsScopeOf p vars states
    → map state_with_line resolved ≡ states_with_lines p → reset ≡ place_or_end (state_names p.states) p.reset
    → Path Fsmd (record { variables = vars; reset = reset; states = map resolved_state resolved }) (machine_of p)
machine_is p vars states resolved reset s e f = let t = states_are p resolved e in λ i. record { variables = s.vars i; reset = f i; states = t i }

pub leads_placed : (p : Source) → AreKept p → LeadOn (states_with_lines p)
leads_placed p k q h =
    let count : length (states_with_lines p) ≡ length p.states =
    length_map (spelled_state_with_line (names_of (variables_of p.declarations)) (state_names p.states)) p.states in
    let low = lead_on p k q (omega arith) in
    let same : first_transition_target (transitions_of (skeleton (states_with_lines p) 0) q) ≡ first_transition_target (transitions_of (machine_of p) q) =
    ap (λ st. first_transition_target (slice_index_or st q no_state).transitions) (placed_states p) in
    omega arith

-- ---- branches and endless lines

pub forked_is : (p : Source) → forked_faults (states_with_lines p) ≡ branch_faults p
forked_is p = flat_map_map _ (spelled_state_with_line (names_of (variables_of p.declarations)) (state_names p.states)) p.states

none_endless : (ss : List (ℕ × State)) (qs : List ℕ) → list_all (λ q. nat_lt q (length ss)) qs ≡ true → endless_faults ss qs ≡ [] → length qs ≡ 0
none_endless ss [] e f = refl
none_endless ss (q ∷ qs) e f =
    let b = and_parts (nat_lt q (length ss)) (list_all (λ k. nat_lt k (length ss)) qs) e in
    let low : q < length (map (λ (s : ℕ × State). s.0) ss) = let h = ltb-true q (length ss) b.0 in
    let c = length_map (λ (s : ℕ × State). s.0) ss in omega arith in
    let n = element_at (map (λ (s : ℕ × State). s.0) ss) q low in
    let g = ap (λ o. at_lines EndlessLine (option_to_list o ++ flat_map (λ k. option_to_list (slice_get (map (λ (s : ℕ × State). s.0) ss) k)) qs))
    (sym n.1) ∙ f in
    absurd (cc)

pub cut_same : (m n : Fsmd) → m.states ≡ n.states → m.reset ≡ n.reset → (q : ℕ) → is_cutpoint m q ≡ is_cutpoint n q
cut_same m n e f q = ap₂ (λ (st : List State) (r : ℕ). (q == r) || nat_lt 1 (length (branches_of (slice_index_or st q no_state).transitions))) e f

reach_same : (m n : Fsmd) → m.states ≡ n.states → m.reset ≡ n.reset → (k q : ℕ) → reaches_cutpoint m k q ≡ reaches_cutpoint n k q
reach_same m n e f zero q = cut_same m n e f q
reach_same m n e f (suc k) q =
    ap₂ (λ (a b : Bool). a || b) (cut_same m n e f q)
    (reach_same m n e f k (first_transition_target (transitions_of m q))
    ∙ ap (λ st. reaches_cutpoint n k (first_transition_target (slice_index_or st q no_state).transitions)) e)

pub shapes_kept : (p : Source) (ss : List (ℕ × State)) (reset : ℕ) (first : Option CheckFault) → ss ≡ states_with_lines p
    → reset ≡ place_or_end (state_names p.states) p.reset
    → first ≡ None → IsFirstOfShapes ss reset first
    → (branch_faults p ≡ []) × ((q : ℕ) → q < length p.states → reaches_cutpoint (machine_of p) (length p.states) q ≡ true)
shapes_kept p ss reset first e f none late =
    let n = nothing_noted (earliest None (forked_faults ss)) (endless_faults ss late.endless) (sym late.is_first ∙ none) in
    let b = nothing_noted None (forked_faults ss) n.0 in
    let count : length ss ≡ length p.states = ap length e
    ∙ length_map (spelled_state_with_line (names_of (variables_of p.declarations)) (state_names p.states)) p.states in
    let st : (skeleton ss reset).states ≡ (machine_of p).states = ap (λ l. map (λ s. s.1) l) e ∙ placed_states p in (
      sym (ap forked_faults e ∙ forked_is p) ∙ b.1,
      λ q h. let low : q < length ss = omega arith in
          ap (λ k. reaches_cutpoint (machine_of p) k q) (sym count) ∙ sym (reach_same (skeleton ss reset) (machine_of p) st f (length ss) q)
          ∙ late.ends (none_endless ss late.endless late.inside n.1) q low,
    )

pub reset_low : (p : Source) (reset : ℕ) (resolved : List NumberedState) → reset < length p.states → map state_with_line resolved ≡ states_with_lines p
    → reset < length resolved
reset_low p reset resolved h f =
    let a : length (map state_with_line resolved) ≡ length resolved = length_map state_with_line resolved in
    let b : length (states_with_lines p) ≡ length p.states =
    length_map (spelled_state_with_line (names_of (variables_of p.declarations)) (state_names p.states)) p.states in
    let c : length (map state_with_line resolved) ≡ length (states_with_lines p) = ap length f in
    omega arith
