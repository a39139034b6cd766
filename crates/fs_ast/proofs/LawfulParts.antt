-- Parts are lawful where the machine that they spell keeps the rules and is nowhere endless.
use Rattle.std.proofs.Common.{◌≡◌, ℕ, ◌<◌, ◌≤◌, List, [], length, map, ap, sym, refl, ◌∙◌, arith, true, false}
use Rattle.std.specs.Prelude.{not, nat_lt, Some, slice_get, option_map}
use Rattle.std.proofs.lemmas.Option.{slice_get_within, slice_get-map}
use Rattle.std.proofs.lemmas.Bool.{lt-ltb, le-ltb}
use Rattle.fs_model.proofs.Lists.{length_map, map_map}
use Rattle.fs_model.specs.declared.parts.VarInfo.{VarInfo}
use Rattle.fs_model.specs.Limits.{most_variables, most_states, most_branches}
use Rattle.fs_model.specs.Expressions.{Transition}
use Rattle.fs_model.specs.Source.{SourceState, Source}
use Rattle.fs_model.specs.Machines.{Fsmd, State, transitions_of}
use Rattle.fs_model.specs.Trees.{tree_of_transitions, branches_of, count_leaves}
use Rattle.fs_rules.specs.declared.check.CheckRule.TheVariants.{TwiceNamed, NoElse, AfterElse, TooManyBranches, UnknownState, TooMany}
use Rattle.fs_rules.specs.MachineOfParts.{place_or_end, variables_of, names_of, state_names, transition_spelled, state_spelled, machine_of}
use Rattle.fs_model.specs.SoundMachines.{IsSound, names_differ, ends_open, branch_count}
use Rattle.fs_rules.specs.Rules.{at_lines, broken_where, declared_names, declared_states, repeated_lines, line_past_limit, transition_faults}
use Rattle.fs_rules.specs.Rules.{transitions_faults, lacks_else, after_else}
use Rattle.fs_rules.specs.Rules.{state_faults, plain_faults, branches_too_often, IsEndless, BreaksNoRule}
use Rattle.fs_rules.proofs.Naming.{names_declared, names_of_declared}
use Rattle.fs_rules.proofs.Unbroken.{none_past}
use Rattle.fs_branches.proofs.Leaves.{length_leaves}
use Rattle.fs_ast.proofs.Kept.{lines_some, not_endless, passes_no_cutpoint}
use Rattle.fs_ast.proofs.Repeats.{never_again}
use Rattle.fs_ast.proofs.Faultless.{none_broken, nil_both, none_flat, IsFaultless, of_sound, none_at_line, has_else, else_last}

-- what a machine keeps, so that parts that spell it break no rule where no state is endless
pub record KeepsRules (m : Fsmd) : Type 0 where
  pub few_variables : length m.variables ≤ most_variables
  pub few_states : length m.states ≤ most_states
  pub variables_differ : names_differ (map (λ v. v.name) m.variables) ≡ true
  pub states_differ : names_differ (map (λ s. s.name) m.states) ≡ true
  pub reset_in : m.reset < length m.states
  pub faultless : (q k : ℕ) (l : Transition ℕ ℕ) → slice_get (transitions_of m q) k ≡ Some l → IsFaultless m.variables l.guard l.assignments
  pub leads_in : (q k : ℕ) (l : Transition ℕ ℕ) → slice_get (transitions_of m q) k ≡ Some l → l.target < length m.states
  pub open_last : (q : ℕ) → q < length m.states → ends_open (transitions_of m q) ≡ true
  pub few_branches : (q : ℕ) → branch_count m q ≤ most_branches

pub keeps_rules : (m : Fsmd) → IsSound m → KeepsRules m
keeps_rules m s = record {
  few_variables = s.few_variables;
  few_states = s.few_states;
  variables_differ = s.variables_differ;
  states_differ = s.states_differ;
  reset_in = s.reset_in;
  faultless = λ q k l e. of_sound m.variables (length m.states) l (s.transitions_sound q l k e);
  leads_in = λ q k l e. (s.transitions_sound q l k e).target_in;
  open_last = λ q h. s.open_last q h;
  few_branches = s.few_branches;
}

module _ (p : Source) (keeps : KeepsRules (machine_of p)) where
  abbrev V : List VarInfo
  V = variables_of p.declarations

  abbrev SS : List (List ℕ)
  SS = state_names p.states

  abbrev M : Fsmd
  M = machine_of p

  count : length M.states ≡ length p.states
  count = length_map (state_spelled (names_of V) SS) p.states

  -- ---- names
  names_once : repeated_lines [] (declared_names p.declarations) ≡ []
  names_once = never_again [] (declared_names p.declarations) (ap names_differ (names_declared p.declarations) ∙ keeps.variables_differ) (λ x h. refl)

  names_few : line_past_limit most_variables (declared_names p.declarations) ≡ []
  names_few =
      let a = length_map (λ (d : ℕ × List ℕ). d.1) (declared_names p.declarations) in
      let b = ap length (names_declared p.declarations) in
      let c = length_map (λ (v : VarInfo). v.name) V in
      let few = keeps.few_variables in
      none_past most_variables (declared_names p.declarations) (omega (arith, a, b, c, few))

  states_once : repeated_lines [] (declared_states p.states) ≡ []
  states_once =
      never_again [] (declared_states p.states)
      (ap names_differ (names_of_declared p.states ∙ sym (map_map (λ (s : State). s.name) (state_spelled (names_of V) SS) p.states)) ∙ keeps.states_differ)
      (λ x h. refl)

  states_few : line_past_limit most_states (declared_states p.states) ≡ []
  states_few =
      let a = length_map {B = ℕ × List ℕ} (λ (s : SourceState). (s.line, s.name)) p.states in
      let few = keeps.few_states in
      none_past most_states (declared_states p.states) (omega (arith, a, count, few))

  -- ---- one state
  module _ (q : ℕ) (st : SourceState) (at : slice_get p.states q ≡ Some st) where
    spelled_lines : transitions_of M q ≡ map (transition_spelled (names_of V) SS) st.transitions
    spelled_lines = lines_some (names_of V) SS p.states q st at

    opens : ends_open (map (transition_spelled (names_of V) SS) st.transitions) ≡ true
    opens =
        let h = slice_get_within p.states q st at in
        ap ends_open (sym spelled_lines) ∙ keeps.open_last q (omega (arith, h, count))

    lines_free : transitions_faults V SS st.transitions ≡ []
    lines_free =
        none_flat (λ l. transition_faults V (length SS) l.line (transition_spelled (names_of V) SS l)) st.transitions
        (λ j l e.
        let there : slice_get (transitions_of M q) j ≡ Some (transition_spelled (names_of V) SS l) =
        ap (λ ls. slice_get ls j) spelled_lines ∙ slice_get-map (transition_spelled (names_of V) SS) st.transitions j
        ∙ ap (option_map (transition_spelled (names_of V) SS)) e in
        let low = keeps.leads_in q j (transition_spelled (names_of V) SS l) there in
        let same = length_map (λ (s : SourceState). s.name) p.states in
        none_at_line V (transition_spelled (names_of V) SS l) (keeps.faultless q j (transition_spelled (names_of V) SS l) there)
        (length SS) l.line (omega (arith, low, same, count)))

    state_free : state_faults V SS st ≡ []
    state_free =
        nil_both (broken_where (lacks_else st.transitions) NoElse st.line) _
        (none_broken (lacks_else st.transitions) NoElse st.line (has_else (names_of V) SS st.transitions opens))
        (nil_both (at_lines AfterElse (after_else false st.transitions)) (transitions_faults V SS st.transitions)
        (ap (at_lines AfterElse) (else_last (names_of V) SS st.transitions opens)) lines_free)

    branches_free : broken_where (branches_too_often (names_of V) SS st) TooManyBranches st.line ≡ []
    branches_free =
        let tree = tree_of_transitions (map (transition_spelled (names_of V) SS) st.transitions) in
        let is : branch_count M q ≡ count_leaves tree = ap (λ ls. length (branches_of ls)) spelled_lines ∙ length_leaves tree [] in
        let few = keeps.few_branches q in
        none_broken (nat_lt most_branches (count_leaves tree)) TooManyBranches st.line (le-ltb most_branches (count_leaves tree) (omega (arith, is, few)))

  -- ---- all rules
  plain : plain_faults p ≡ []
  plain =
      let low = keeps.reset_in in
      nil_both (at_lines TwiceNamed (repeated_lines [] (declared_names p.declarations))) _ (ap (at_lines TwiceNamed) names_once)
      (nil_both (at_lines TooMany (line_past_limit most_variables (declared_names p.declarations))) _ (ap (at_lines TooMany) names_few)
      (nil_both (at_lines TwiceNamed (repeated_lines [] (declared_states p.states))) _ (ap (at_lines TwiceNamed) states_once)
      (nil_both (at_lines TooMany (line_past_limit most_states (declared_states p.states))) _ (ap (at_lines TooMany) states_few)
      (nil_both (broken_where (not (nat_lt (place_or_end SS p.reset) (length p.states))) UnknownState p.reset_line) _
      (none_broken (not (nat_lt (place_or_end SS p.reset) (length p.states))) UnknownState p.reset_line
      (ap not (lt-ltb (place_or_end SS p.reset) (length p.states) (omega (arith, low, count)))))
      (none_flat (state_faults V SS) p.states state_free)))))

  pub lawful_where : ((q : ℕ) → q < length (machine_of p).states → IsEndless (machine_of p) q → ⊥) → BreaksNoRule p
  lawful_where ends = record {
    plain = plain;
    branches = none_flat (λ s. broken_where (branches_too_often (names_of V) SS s) TooManyBranches s.line) p.states branches_free;
    ends = λ n e. (let h = slice_get_within p.states e.place e.state e.is_there in ends e.place (omega (arith, h, count)) e.endless);
  }

pub lawful_of_sound : (p : Source) → IsSound (machine_of p) → BreaksNoRule p
lawful_of_sound p s = lawful_where p (keeps_rules (machine_of p) s) (λ q h e. not_endless (machine_of p) (length (machine_of p).states) q (s.cut q h)
    (passes_no_cutpoint (machine_of p) q e))
