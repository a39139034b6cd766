-- The rules that the parts of a machine keep, and the line at which each is broken.
use Rattle.std.specs.Prelude.{◌≡◌, ℕ, zero, suc, ◌<◌, ◌==◌, nat_lt, Bool, false, not, ◌&&◌, ◌||◌, cond, ◌⊎◌, Contains, List}
use Rattle.std.specs.Prelude.{[], ◌∷◌, ◌++◌, length, take, drop, map, Some, slice_get}
use Rattle.std.specs.List.{list_all, list_any, flat_map}
use Rattle.std.specs.Str.{bytes_eq}
use Rattle.fs_model.specs.declared.parts.VarInfo.{VarInfo}
use Rattle.fs_model.specs.Expressions.{Transition}
use Rattle.fs_model.specs.Source.{Declaration, SourceTransition, SourceState, Source}
use Rattle.fs_model.specs.Machines.{Fsmd, transitions_of}
use Rattle.fs_model.specs.Trees.{tree_of_transitions, count_leaves}
pub use Rattle.fs_else_transitions.specs.ElseTransitions.{lacks_else, after_else}
use Rattle.fs_rules.specs.declared.check.CheckRule.{CheckRule}
use Rattle.fs_rules.specs.declared.check.CheckRule.TheVariants.{TwiceNamed, UnknownName, WrongSort, AssignInput, AssignedTwice}
use Rattle.fs_rules.specs.declared.check.CheckRule.TheVariants.{NoElse, AfterElse, TooManyBranches, EndlessLine, UnknownState}
use Rattle.fs_rules.specs.declared.check.CheckRule.TheVariants.{TooMany, TooManyEmits}
use Rattle.fs_rules.specs.declared.check.CheckFault.{CheckFault}
use Rattle.fs_rules.specs.MachineOfParts.{variables_of, names_of, state_names, place_or_end, transition_spelled, machine_of}
use Rattle.fs_model.specs.Limits.{most_variables, most_states, most_branches, most_emits}
use Rattle.fs_model.specs.Runs.{is_scalar, is_array, is_port}
use Rattle.fs_model.specs.SoundMachines.{other_sort_at, input_at, all_differ, assigned_in, changed_by, scalars_in_condition}
use Rattle.fs_model.specs.SoundMachines.{arrays_in_condition, scalars_in_assignments, arrays_in_assignments, ports_in_assignments}
use Rattle.fs_model.specs.SoundMachines.{emit_count, first_transition_target}

-- a rule at each of these lines
abbrev pub at_lines : CheckRule → List ℕ → List CheckFault
at_lines rule lines = map (λ n. record { rule = rule; line = n }) lines

-- a rule at a line, where it is broken
abbrev pub broken_where : Bool → CheckRule → ℕ → List CheckFault
broken_where broken rule n = cond broken (record { rule = rule; line = n } ∷ []) []

-- the names declared, each with the line of its declaration
abbrev pub declared_names : List Declaration → List (ℕ × List ℕ)
declared_names ds = flat_map (λ d. map (λ n. (d.line, n)) d.names) ds

abbrev pub declared_states : List SourceState → List (ℕ × List ℕ)
declared_states ss = map (λ s. (s.line, s.name)) ss

-- the lines at which a name stands that stood before
abbrev pub repeated_lines : List (List ℕ) → List (ℕ × List ℕ) → List ℕ
repeated_lines before [] = []
repeated_lines before (n ∷ ns) = cond (list_any (λ m. bytes_eq m n.1) before) (n.0 ∷ repeated_lines (n.1 ∷ before) ns)
    (repeated_lines (n.1 ∷ before) ns)

-- the line of the first that is past a limit
abbrev pub line_past_limit : ℕ → List (ℕ × List ℕ) → List ℕ
line_past_limit most ns = map (λ n. n.0) (take 1 (drop most ns))

-- uses of variables, each either declared or not, and each of the sort wanted or not
abbrev pub is_known : List VarInfo → ℕ → Bool
is_known vs x = nat_lt x (length vs)

abbrev pub uses_unknown : List VarInfo → Transition ℕ ℕ → Bool
uses_unknown vs l =
    not (list_all (is_known vs) (scalars_in_condition l.guard ++ scalars_in_assignments l.assignments)
    && (list_all (is_known vs) (arrays_in_condition l.guard ++ arrays_in_assignments l.assignments)
    && list_all (is_known vs) (ports_in_assignments l.assignments)))

abbrev pub uses_wrong_sort : List VarInfo → Transition ℕ ℕ → Bool
uses_wrong_sort vs l =
    list_any (other_sort_at is_scalar vs) (scalars_in_condition l.guard ++ scalars_in_assignments l.assignments)
    || (list_any (other_sort_at is_array vs) (arrays_in_condition l.guard ++ arrays_in_assignments l.assignments)
    || list_any (other_sort_at is_port vs) (ports_in_assignments l.assignments))

abbrev pub changes_input : List VarInfo → Transition ℕ ℕ → Bool
changes_input vs l = list_any (λ a. input_at vs (changed_by a)) l.assignments

-- the rules of one transition, of which n is the line
abbrev pub transition_faults : List VarInfo → ℕ → ℕ → Transition ℕ ℕ → List CheckFault
transition_faults vs count n l =
    broken_where (uses_unknown vs l) UnknownName n
    ++ (broken_where (uses_wrong_sort vs l) WrongSort n ++ (broken_where (changes_input vs l) AssignInput n
    ++ (broken_where (not (all_differ (assigned_in l.assignments))) AssignedTwice n
    ++ (broken_where (not (nat_lt l.target count)) UnknownState n
    ++ broken_where (nat_lt most_emits (emit_count l.assignments)) TooManyEmits n))))

abbrev pub transitions_faults : List VarInfo → List (List ℕ) → List SourceTransition → List CheckFault
transitions_faults vs ss ls = flat_map (λ l. transition_faults vs (length ss) l.line (transition_spelled (names_of vs) ss l)) ls

abbrev pub state_faults : List VarInfo → List (List ℕ) → SourceState → List CheckFault
state_faults vs ss s = broken_where (lacks_else s.transitions) NoElse s.line
    ++ (at_lines AfterElse (after_else false s.transitions) ++ transitions_faults vs ss s.transitions)

-- the broken rules, those on branches and on endless lines left out
abbrev pub plain_faults : Source → List CheckFault
plain_faults p =
    at_lines TwiceNamed (repeated_lines [] (declared_names p.declarations))
    ++ (at_lines TooMany (line_past_limit most_variables (declared_names p.declarations))
    ++ (at_lines TwiceNamed (repeated_lines [] (declared_states p.states))
    ++ (at_lines TooMany (line_past_limit most_states (declared_states p.states))
    ++ (broken_where (not (nat_lt (place_or_end (state_names p.states) p.reset) (length p.states))) UnknownState p.reset_line
    ++ flat_map (state_faults (variables_of p.declarations) (state_names p.states)) p.states))))

-- whether the tree of a state's transitions has too many leaves
abbrev pub branches_too_often : List (List ℕ) → List (List ℕ) → SourceState → Bool
branches_too_often vs ss s = nat_lt most_branches
    (count_leaves (tree_of_transitions (map (transition_spelled vs ss) s.transitions)))

abbrev pub branch_faults : Source → List CheckFault
branch_faults p =
    flat_map
    (λ s. broken_where (branches_too_often (names_of (variables_of p.declarations)) (state_names p.states) s) TooManyBranches
    s.line) p.states

-- the state that n steps by first transitions lead to
abbrev pub after_steps : Fsmd → ℕ → ℕ → ℕ
after_steps m zero q = q
after_steps m (suc n) q = after_steps m n (first_transition_target (transitions_of m q))

-- whether paths are cut at a state: it is the reset state, or its transitions have more than one branch
abbrev pub forks : Fsmd → ℕ → Bool
forks m q = (q == m.reset) || nat_lt 1 (count_leaves (tree_of_transitions (transitions_of m q)))

-- going on from a state comes back to it, and paths are cut at no state passed
pub record IsEndless (m : Fsmd) (q : ℕ) : Type 0 where
  pub steps : ℕ
  pub some : 0 < steps
  pub back : after_steps m steps q ≡ q
  pub uncut : (k : ℕ) → forks m (after_steps m k q) ≡ false

-- a state of the text on an endless line, and its line
pub record EndlessAt (p : Source) (n : ℕ) : Type 0 where
  pub place : ℕ
  pub state : SourceState
  pub is_there : slice_get p.states place ≡ Some state
  pub line : n ≡ state.line
  pub endless : IsEndless (machine_of p) place

-- the rules on branches and on endless lines, which are looked at where all others are kept
abbrev pub BrokenShape : Source → CheckFault → Type 0
BrokenShape p f = Contains (branch_faults p) f ⊎ ((f.rule ≡ EndlessLine) × EndlessAt p f.line)

-- a rule that is broken at a line
abbrev pub Broken : Source → CheckFault → Type 0
Broken p f = Contains (plain_faults p) f ⊎ ((plain_faults p ≡ []) × BrokenShape p f)

-- the place of a rule in the order of rules
abbrev pub rule_rank : CheckRule → ℕ
rule_rank TwiceNamed = 1
rule_rank UnknownName = 2
rule_rank WrongSort = 3
rule_rank AssignInput = 4
rule_rank AssignedTwice = 5
rule_rank NoElse = 6
rule_rank AfterElse = 7
rule_rank TooManyBranches = 8
rule_rank EndlessLine = 9
rule_rank UnknownState = 10
rule_rank TooMany = 11
rule_rank TooManyEmits = 12

-- the lesser line comes first, and of one line the lesser rule
abbrev pub is_sooner : CheckFault → CheckFault → Bool
is_sooner f g = nat_lt f.line g.line || (f.line == g.line && nat_lt (rule_rank f.rule) (rule_rank g.rule))

-- the broken rule that is answered
pub record IsFirstBroken (p : Source) (f : CheckFault) : Type 0 where
  pub broken : Broken p f
  pub first : (g : CheckFault) → Broken p g → is_sooner g f ≡ false

-- no rule is broken
pub record BreaksNoRule (p : Source) : Type 0 where
  pub plain : plain_faults p ≡ []
  pub branches : branch_faults p ≡ []
  pub ends : (n : ℕ) → EndlessAt p n → ⊥
