-- Where no rule is broken, the machine that parts spell is sound.
use Rattle.std.proofs.Common.{◌≡◌, ℕ, zero, suc, ◌<◌, ◌≤◌, Bool, true, false, cond, List, [], ◌∷◌, ◌++◌, length, refl, sym, ◌∙◌, ap, subst, inl, inr, ⊎_elim}
use Rattle.std.proofs.Common.{arith}
use Rattle.std.specs.Prelude.{◌==◌, ◌&&◌, ◌||◌, ◌⊎◌, not, nat_lt, Option, Some, None, option_map, is_some, is_none, map, slice_get}
use Rattle.std.specs.List.{list_all, list_any, flat_map, slice_index_or}
use Rattle.std.specs.Str.{bytes_eq}
use Rattle.std.proofs.lemmas.Slice.Eq.{bytes_eq-Decides}
use Rattle.std.proofs.lemmas.Bool.Decides.{nat_tests}
use Rattle.fs_model.specs.declared.parts.VarInfo.{VarInfo}
use Rattle.fs_model.specs.Expressions.{Transition}
use Rattle.fs_model.specs.Source.{SourceTransition, SourceState, Source}
use Rattle.fs_model.specs.Machines.{State, Fsmd, transitions_of}
use Rattle.fs_model.specs.Trees.{tree_of_transitions, branches_of, count_leaves}
use Rattle.fs_rules.specs.declared.check.CheckRule.{CheckRule}
use Rattle.fs_rules.specs.declared.check.CheckFault.{CheckFault}
use Rattle.fs_rules.specs.declared.check.CheckRule.TheVariants.{TwiceNamed, UnknownName, WrongSort, AssignInput, AssignedTwice, NoElse, AfterElse}
use Rattle.fs_rules.specs.declared.check.CheckRule.TheVariants.{TooManyBranches, UnknownState, TooMany, TooManyEmits}
use Rattle.std.proofs.lemmas.Option.{slice_get_within}
use Rattle.std.proofs.lemmas.Bool.{and_parts, or_parts, and_from, or_right, not-false, ltb-false, ltb-true}
use Rattle.fs_model.proofs.Booleans.{or_other}
use Rattle.fs_model.proofs.Lists.{bytes_eq-self, element_at, slice_get-of_map, length_map, map_map}
use Rattle.fs_model.specs.Renamed.{guard_over}
use Rattle.fs_rules.specs.MachineOfParts.{variables_of, names_of, state_names, place_or_end, transition_spelled, state_spelled, machine_of}
use Rattle.fs_model.specs.Words.{is_name}
use Rattle.fs_model.specs.Limits.{most_variables, most_states, most_emits}
use Rattle.fs_model.specs.declared.parts.Sort.{Sort}
use Rattle.fs_model.specs.Runs.{is_scalar, is_array, is_port}
use Rattle.fs_model.specs.SoundMachines.{has_sort, other_sort_at, input_at, names_differ, all_differ, scalars_in_condition, arrays_in_condition}
use Rattle.fs_model.specs.SoundMachines.{scalars_in_assignments}
use Rattle.fs_model.specs.SoundMachines.{arrays_in_assignments, ports_in_assignments, emit_count, numbers_in_condition, numbers_in_assignments}
use Rattle.fs_model.specs.SoundMachines.{numbers_in_states}
use Rattle.fs_model.specs.SoundMachines.{is_text_number, changed_by, assigned_in, IsSoundTransition, IsSound, is_open, ends_open, branch_count}
use Rattle.fs_model.specs.SoundMachines.{first_transition_target}
use Rattle.fs_model.specs.SoundMachines.{is_cutpoint, reaches_cutpoint}
use Rattle.fs_rules.specs.Rules.{at_lines, broken_where, declared_names, declared_states, repeated_lines, line_past_limit, is_known, uses_unknown}
use Rattle.fs_rules.specs.Rules.{uses_wrong_sort}
use Rattle.fs_rules.specs.Rules.{changes_input, transition_faults, transitions_faults, lacks_else, after_else, state_faults, plain_faults, branches_too_often}
use Rattle.fs_rules.specs.Rules.{branch_faults, after_steps, forks, IsEndless, BreaksNoRule}
use Rattle.fs_rules.specs.Places.{declared_name_list}
use Rattle.fs_rules.proofs.Naming.{names_declared, names_of_declared}
use Rattle.fs_branches.proofs.Leaves.{length_leaves}
use Rattle.fs_ast.proofs.Numbers.{numbers_in_transition, state_numbers, transition_numbers}

-- ---- lists with nothing in them

pub kept : (b : Bool) (r : CheckRule) (n : ℕ) → broken_where b r n ≡ [] → b ≡ false
kept false r n e = refl
kept true r n e = absurd (cc)

pub nil_left : {A : Type 0} (a b : List A) → a ++ b ≡ [] → a ≡ []
nil_left [] b e = refl
nil_left (x ∷ a) b e = absurd (cc)

pub nil_right : {A : Type 0} (a b : List A) → a ++ b ≡ [] → b ≡ []
nil_right [] b e = e
nil_right (x ∷ a) b e = absurd (cc)

pub lines_nil : (r : CheckRule) (ns : List ℕ) → at_lines r ns ≡ [] → ns ≡ []
lines_nil r [] e = refl
lines_nil r (n ∷ ns) e = absurd (cc)

pub flat_nil : {A B : Type 0} (f : A → List B) (xs : List A) → flat_map f xs ≡ [] → (k : ℕ) (x : A) → slice_get xs k ≡ Some x → f x ≡ []
flat_nil f [] e k x at = absurd (cc)
flat_nil f (y ∷ ys) e zero x at = let same : y ≡ x = cc in ap f (sym same) ∙ nil_left (f y) (flat_map f ys) e
flat_nil f (y ∷ ys) e (suc k) x at = flat_nil f ys (nil_right (f y) (flat_map f ys) e) k x at

pub few_past : (most : ℕ) (ds : List (ℕ × List ℕ)) → line_past_limit most ds ≡ [] → length ds ≤ most
few_past zero [] e = omega arith
few_past zero (d ∷ ds) e = absurd (cc)
few_past (suc m) [] e = omega arith
few_past (suc m) (d ∷ ds) e = let h : length ds ≤ m = few_past m ds e in omega arith

-- ---- names that differ

unrepeated_head : (b : Bool) (line : ℕ) (rest : List ℕ) → cond b (line ∷ rest) rest ≡ [] → (b ≡ false) × (rest ≡ [])
unrepeated_head true line rest e = absurd (cc)
unrepeated_head false line rest e = (refl, e)

or_false : (a b : Bool) → (a ≡ true → ⊥) → b ≡ false → (a || b) ≡ false
or_false true b h e = absurd (h refl)
or_false false b h e = e

record Apart (before : List (List ℕ)) (ns : List (List ℕ)) : Type 0 where
  differ : names_differ ns ≡ true
  apart : (x : List ℕ) → list_any (λ m. bytes_eq m x) before ≡ true → list_any (λ m. bytes_eq m x) ns ≡ false

unrepeated : (before : List (List ℕ)) (ns : List (ℕ × List ℕ)) → repeated_lines before ns ≡ [] → Apart before (declared_name_list ns)
unrepeated before [] e = record { differ = refl; apart = λ x h. refl }
unrepeated before (n ∷ ns) e =
    let h = unrepeated_head (list_any (λ m. bytes_eq m n.1) before) n.0 (repeated_lines (n.1 ∷ before) ns) e in
    let rest = unrepeated (n.1 ∷ before) ns h.1 in
    record {
      differ = and_from (not (list_any (λ m. bytes_eq m n.1) (declared_name_list ns))) (names_differ (declared_name_list ns))
          (ap not (rest.apart n.1 (ap (λ b. b || list_any (λ m. bytes_eq m n.1) before) (bytes_eq-self n.1)))) rest.differ;
      apart = λ x seen.
          or_false (bytes_eq n.1 x) (list_any (λ m. bytes_eq m x) (declared_name_list ns))
          (λ t. let same : n.1 ≡ x = (bytes_eq-Decides n.1 x).0 t in let s : list_any (λ m. bytes_eq m n.1) before ≡ true =
          ap (λ k. list_any (λ m. bytes_eq m k) before) same ∙ seen in let f = h.0 in cc)
          (rest.apart x (or_right (bytes_eq n.1 x) (list_any (λ m. bytes_eq m x) before) seen));
    }

pub differ : (ns : List (ℕ × List ℕ)) → repeated_lines [] ns ≡ [] → names_differ (declared_name_list ns) ≡ true
differ ns e = (unrepeated [] ns e).differ

-- ---- one transition

sort_known : (test : Sort → Bool) (vs : List VarInfo) (x : ℕ) → x < length vs → other_sort_at test vs x ≡ false → has_sort test (slice_get vs x) ≡ true
sort_known test [] x h e = absurd (omega arith)
sort_known test (v ∷ vs) zero h e = not-false (test v.sort) e
sort_known test (v ∷ vs) (suc x) h e = sort_known test vs x (omega arith) e

all_sorts : (test : Sort → Bool) (vs : List VarInfo) (xs : List ℕ) → list_all (is_known vs) xs ≡ true → list_any (other_sort_at test vs) xs ≡ false
    → list_all (λ x. has_sort test (slice_get vs x)) xs ≡ true
all_sorts test vs [] e f = refl
all_sorts test vs (x ∷ xs) e f =
    let a = and_parts (is_known vs x) (list_all (is_known vs) xs) e in
    let b = or_parts (other_sort_at test vs x) (list_any (other_sort_at test vs) xs) f in
    and_from (has_sort test (slice_get vs x)) (list_all (λ y. has_sort test (slice_get vs y)) xs) (sort_known test vs x (ltb-true x (length vs) a.0) b.0)
    (all_sorts test vs xs a.1 b.1)

all_not : {A : Type 0} (p : A → Bool) (xs : List A) → list_any p xs ≡ false → list_all (λ x. not (p x)) xs ≡ true
all_not p [] e = refl
all_not p (x ∷ xs) e = let b = or_parts (p x) (list_any p xs) e in and_from (not (p x)) (list_all (λ y. not (p y)) xs) (ap not b.0) (all_not p xs b.1)

-- a rule that is not broken, and what comes after it
kept_then : (b : Bool) (r : CheckRule) (n : ℕ) (rest : List CheckFault) → broken_where b r n ++ rest ≡ [] → (b ≡ false) × (rest ≡ [])
kept_then false r n rest e = (refl, e)
kept_then true r n rest e = absurd (cc)

-- a transition breaks no rule
record KeepsEach (vs : List VarInfo) (count : ℕ) (l : Transition ℕ ℕ) : Type 0 where
  known : uses_unknown vs l ≡ false
  sorted : uses_wrong_sort vs l ≡ false
  inputs : changes_input vs l ≡ false
  once : all_differ (assigned_in l.assignments) ≡ true
  target : l.target < count
  emits : nat_lt most_emits (emit_count l.assignments) ≡ false

keeps_each : (vs : List VarInfo) (count n : ℕ) (l : Transition ℕ ℕ) → transition_faults vs count n l ≡ [] → KeepsEach vs count l
keeps_each vs count n l e =
    let a = kept_then (uses_unknown vs l) UnknownName n _ e in
    let b = kept_then (uses_wrong_sort vs l) WrongSort n _ a.1 in
    let c = kept_then (changes_input vs l) AssignInput n _ b.1 in
    let d = kept_then (not (all_differ (assigned_in l.assignments))) AssignedTwice n _ c.1 in
    let f = kept_then (not (nat_lt l.target count)) UnknownState n _ d.1 in
    record {
      known = a.0;
      sorted = b.0;
      inputs = c.0;
      once = not-false (all_differ (assigned_in l.assignments)) d.0;
      target = ltb-true l.target count (not-false (nat_lt l.target count) f.0);
      emits = kept (nat_lt most_emits (emit_count l.assignments)) TooManyEmits n f.1;
    }

pub transition_sound : (vs : List VarInfo) (count n : ℕ) (l : Transition ℕ ℕ)
    → list_all is_text_number (numbers_in_condition l.guard ++ numbers_in_assignments l.assignments) ≡ true → transition_faults vs count n l ≡ []
    → IsSoundTransition vs count l
transition_sound vs count n l right e =
    let scalars = scalars_in_condition l.guard ++ scalars_in_assignments l.assignments in
    let arrays = arrays_in_condition l.guard ++ arrays_in_assignments l.assignments in
    let ports = ports_in_assignments l.assignments in
    let k = keeps_each vs count n l e in
    let known = and_parts (list_all (is_known vs) scalars) (list_all (is_known vs) arrays && list_all (is_known vs) ports)
    (not-false (list_all (is_known vs) scalars && (list_all (is_known vs) arrays && list_all (is_known vs) ports)) k.known) in
    let known_others = and_parts (list_all (is_known vs) arrays) (list_all (is_known vs) ports) known.1 in
    let sorts = or_parts (list_any (other_sort_at is_scalar vs) scalars)
    (list_any (other_sort_at is_array vs) arrays || list_any (other_sort_at is_port vs) ports) k.sorted in
    let sorts_others = or_parts (list_any (other_sort_at is_array vs) arrays) (list_any (other_sort_at is_port vs) ports) sorts.1 in
    record {
      scalars = all_sorts is_scalar vs scalars known.0 sorts.0;
      arrays = all_sorts is_array vs arrays known_others.0 sorts_others.0;
      ports = all_sorts is_port vs ports known_others.1 sorts_others.1;
      numbers = right;
      inputs_stay = all_not (λ a. input_at vs (changed_by a)) l.assignments k.inputs;
      assigned_once = k.once;
      few_emits = ltb-false most_emits (emit_count l.assignments) k.emits;
      target_in = k.target;
    }

-- ---- the transitions of a state

open_guard : {A B : Type 0} (f : A → B) (g : Option A) → is_some g ≡ false → is_none (option_map f g) ≡ true
open_guard f None e = refl
open_guard f (Some x) e = absurd (cc)

shut_guard : {A B : Type 0} (f : A → B) (g : Option A) → is_some g ≡ true → not (is_none (option_map f g)) ≡ true
shut_guard f None e = absurd (cc)
shut_guard f (Some x) e = refl

else_head : (b : Bool) (line : ℕ) (rest other : List ℕ) → cond b (line ∷ rest) other ≡ [] → (b ≡ false) × (other ≡ [])
else_head true line rest other e = absurd (cc)
else_head false line rest other e = (refl, e)

pub open_end : (ns ss : List (List ℕ)) (ls : List SourceTransition) → lacks_else ls ≡ false → after_else false ls ≡ []
    → ends_open (map (transition_spelled ns ss) ls) ≡ true
open_end ns ss [] e f = absurd (cc)
open_end ns ss (l ∷ []) e f = open_guard (guard_over (place_or_end ns)) l.content.guard e
open_end ns ss (l ∷ k ∷ ls) e f =
    let h = else_head (not (is_some l.content.guard)) k.line (after_else true ls) (after_else (not (is_some k.content.guard)) ls) f in
    and_from (not (is_open (transition_spelled ns ss l))) (ends_open (map (transition_spelled ns ss) (k ∷ ls)))
    (shut_guard (guard_over (place_or_end ns)) l.content.guard (not-false (is_some l.content.guard) h.0)) (open_end ns ss (k ∷ ls) e h.1)

-- ---- states by their places

abbrev pub no_state : State
no_state = record { name = []; transitions = [] }

pub lines_some : (ns ss : List (List ℕ)) (sts : List SourceState) (q : ℕ) (s : SourceState) → slice_get sts q ≡ Some s
    → (slice_index_or (map (state_spelled ns ss) sts) q no_state).transitions ≡ map (transition_spelled ns ss) s.transitions
lines_some ns ss [] q s e = absurd (cc)
lines_some ns ss (t ∷ sts) zero s e = let same : t ≡ s = cc in ap (λ x. map (transition_spelled ns ss) x.transitions) same
lines_some ns ss (t ∷ sts) (suc q) s e = lines_some ns ss sts q s e

pub lines_none : (ns ss : List (List ℕ)) (sts : List SourceState) (q : ℕ) → slice_get sts q ≡ None
    → (slice_index_or (map (state_spelled ns ss) sts) q no_state).transitions ≡ []
lines_none ns ss [] q e = refl
lines_none ns ss (t ∷ sts) zero e = absurd (cc)
lines_none ns ss (t ∷ sts) (suc q) e = lines_none ns ss sts q e

pub get_mapped : {A B : Type 0} (f : A → B) (xs : List A) (k : ℕ) (y : B) → slice_get (map f xs) k ≡ Some y → (x : A) × ((slice_get xs k ≡ Some x) × (y ≡ f x))
get_mapped f [] k y e = absurd (cc)
get_mapped f (x ∷ xs) zero y e = (x, (refl, cc))
get_mapped f (x ∷ xs) (suc k) y e = get_mapped f xs k y e

pub option_cases : {A : Type 0} (o : Option A) → (o ≡ None) ⊎ ((x : A) × (o ≡ Some x))
option_cases None = inl refl
option_cases (Some x) = inr (x, refl)

-- ---- the whole

-- the plain rules, one by one
pub record AreKept (p : Source) : Type 0 where
  pub variables_once : repeated_lines [] (declared_names p.declarations) ≡ []
  pub variables_few : line_past_limit most_variables (declared_names p.declarations) ≡ []
  pub states_once : repeated_lines [] (declared_states p.states) ≡ []
  pub states_few : line_past_limit most_states (declared_states p.states) ≡ []
  pub reset : place_or_end (state_names p.states) p.reset < length p.states
  pub states : flat_map (state_faults (variables_of p.declarations) (state_names p.states)) p.states ≡ []

pub all_kept : (p : Source) → plain_faults p ≡ [] → AreKept p
all_kept p e =
    let a = at_lines TwiceNamed (repeated_lines [] (declared_names p.declarations)) in
    let b = at_lines TooMany (line_past_limit most_variables (declared_names p.declarations)) in
    let c = at_lines TwiceNamed (repeated_lines [] (declared_states p.states)) in
    let d = at_lines TooMany (line_past_limit most_states (declared_states p.states)) in
    let there = nat_lt (place_or_end (state_names p.states) p.reset) (length p.states) in
    let r = broken_where (not there) UnknownState p.reset_line in
    let s = flat_map (state_faults (variables_of p.declarations) (state_names p.states)) p.states in
    let e1 = nil_right a (b ++ (c ++ (d ++ (r ++ s)))) e in
    let e2 = nil_right b (c ++ (d ++ (r ++ s))) e1 in
    let e3 = nil_right c (d ++ (r ++ s)) e2 in
    let e4 = nil_right d (r ++ s) e3 in
    record {
      variables_once = lines_nil TwiceNamed (repeated_lines [] (declared_names p.declarations)) (nil_left a (b ++ (c ++ (d ++ (r ++ s)))) e);
      variables_few = lines_nil TooMany (line_past_limit most_variables (declared_names p.declarations)) (nil_left b (c ++ (d ++ (r ++ s))) e1);
      states_once = lines_nil TwiceNamed (repeated_lines [] (declared_states p.states)) (nil_left c (d ++ (r ++ s)) e2);
      states_few = lines_nil TooMany (line_past_limit most_states (declared_states p.states)) (nil_left d (r ++ s) e3);
      reset = ltb-true (place_or_end (state_names p.states) p.reset) (length p.states)
          (not-false there (kept (not there) UnknownState p.reset_line (nil_left r s e4)));
      states = nil_right r s e4;
    }

pub count_variables : (p : Source) → AreKept p → length (variables_of p.declarations) ≤ 128
count_variables p k =
    let h = few_past 128 (declared_names p.declarations) k.variables_few in
    let a = length_map (λ (d : ℕ × List ℕ). d.1) (declared_names p.declarations) in
    let b = length_map (λ (v : VarInfo). v.name) (variables_of p.declarations) in
    let c = ap length (names_declared p.declarations) in
    omega arith

pub count_states : (p : Source) → AreKept p → length p.states ≤ 4096
count_states p k =
    let h = few_past 4096 (declared_states p.states) k.states_few in
    let a : length (declared_states p.states) ≡ length p.states = length_map (λ s. (s.line, s.name)) p.states in
    omega arith

-- the rules of one state
pub state_kept : (p : Source) → AreKept p → (q : ℕ) (s : SourceState) → slice_get p.states q ≡ Some s
    → state_faults (variables_of p.declarations) (state_names p.states) s ≡ []
state_kept p k q s at = flat_nil (state_faults (variables_of p.declarations) (state_names p.states)) p.states k.states q s at

pub state_ends : (p : Source) → AreKept p → (q : ℕ) (s : SourceState) → slice_get p.states q ≡ Some s
    → (lacks_else s.transitions ≡ false) × (after_else false s.transitions ≡ [])
state_ends p k q s at =
    let vs = variables_of p.declarations in
    let ss = state_names p.states in
    let e = state_kept p k q s at in
    let n = broken_where (lacks_else s.transitions) NoElse s.line in
    let a = at_lines AfterElse (after_else false s.transitions) in
    let l = transitions_faults vs ss s.transitions in (
      kept (lacks_else s.transitions) NoElse s.line (nil_left n (a ++ l) e),
      lines_nil AfterElse (after_else false s.transitions)
          (nil_left a l (nil_right n (a ++ l) e)),
    )

pub lines_kept : (p : Source) → AreKept p → (q : ℕ) (s : SourceState) → slice_get p.states q ≡ Some s → (j : ℕ) (l : SourceTransition)
    → slice_get s.transitions j ≡ Some l
    → transition_faults (variables_of p.declarations) (length p.states) l.line
    (transition_spelled (names_of (variables_of p.declarations)) (state_names p.states) l) ≡ []
lines_kept p k q s at j l there =
    let vs = variables_of p.declarations in
    let ss = state_names p.states in
    let e = state_kept p k q s at in
    let n = broken_where (lacks_else s.transitions) NoElse s.line in
    let a = at_lines AfterElse (after_else false s.transitions) in
    let f = nil_right a (transitions_faults vs ss s.transitions) (nil_right n (a ++ transitions_faults vs ss s.transitions) e) in
    let one = flat_nil (λ x. transition_faults vs (length ss) x.line (transition_spelled (names_of vs) ss x)) s.transitions f j l there in
    subst (λ c. transition_faults vs c l.line (transition_spelled (names_of vs) ss l) ≡ []) (length_map (λ (x : SourceState). x.name) p.states) one

pub state_lines : (p : Source) → AreKept p → (q : ℕ) (s : SourceState) → slice_get p.states q ≡ Some s → (j : ℕ) (l : SourceTransition)
    → slice_get s.transitions j ≡ Some l
    → list_all is_text_number (numbers_in_transition (transition_spelled (names_of (variables_of p.declarations)) (state_names p.states) l)) ≡ true
    → IsSoundTransition (variables_of p.declarations) (length p.states) (transition_spelled (names_of (variables_of p.declarations)) (state_names p.states) l)
state_lines p k q s at j l there right =
    transition_sound (variables_of p.declarations) (length p.states) l.line
    (transition_spelled (names_of (variables_of p.declarations)) (state_names p.states) l) right (lines_kept p k q s at j l there)

-- names and numbers of the machine that parts spell
pub record AreRight (p : Source) : Type 0 where
  pub variables : list_all (λ v. is_name v.name) (machine_of p).variables ≡ true
  pub states : list_all (λ s. is_name s.name) (machine_of p).states ≡ true
  pub numbers : list_all is_text_number (numbers_in_states (machine_of p).states) ≡ true

at_most : (n : ℕ) → nat_lt 64 n ≡ false → n ≤ 64
at_most n e = grind (arith, nat_tests)

pub sound : (p : Source) → AreKept p → branch_faults p ≡ [] → ((q : ℕ) → q < length p.states → reaches_cutpoint (machine_of p) (length p.states) q ≡ true)
    → AreRight p → IsSound (machine_of p)
sound p k forked ends right =
    let vs = variables_of p.declarations in
    let ns = names_of vs in
    let ss = state_names p.states in
    let count : length (map (state_spelled ns ss) p.states) ≡ length p.states = length_map (state_spelled ns ss) p.states in
    record {
      few_variables = count_variables p k;
      few_states = let h = count_states p k in omega arith;
      variables_differ = ap names_differ (sym (names_declared p.declarations)) ∙ differ (declared_names p.declarations) k.variables_once;
      variables_named = right.variables;
      states_named = right.states;
      states_differ = ap names_differ (map_map (λ s. s.name) (state_spelled ns ss) p.states ∙ sym (names_of_declared p.states))
          ∙ differ (declared_states p.states) k.states_once;
      reset_in = let h = k.reset in omega arith;
      transitions_sound = λ q l j at.
          ⊎_elim
          (λ none. let empty : transitions_of (machine_of p) q ≡ [] = lines_none ns ss p.states q none in
          let gone : slice_get (transitions_of (machine_of p) q) j ≡ None = ap (λ ls. slice_get ls j) empty in absurd (cc))
          (λ some.
          let is : transitions_of (machine_of p) q ≡ map (transition_spelled ns ss) some.0.transitions = lines_some ns ss p.states q some.0 some.1 in
          let m = get_mapped (transition_spelled ns ss) some.0.transitions j l (ap (λ ls. slice_get ls j) (sym is) ∙ at) in
          let numbers = transition_numbers is_text_number (transitions_of (machine_of p) q) j l
          (state_numbers is_text_number (machine_of p).states q right.numbers) at in
          let one = state_lines p k q some.0 some.1 j m.0 m.1.0 (subst (λ x. list_all is_text_number (numbers_in_transition x) ≡ true) m.1.1 numbers) in
          subst (λ c. IsSoundTransition vs c l) (sym count) (subst (λ x. IsSoundTransition vs (length p.states) x) (sym m.1.1) one))
          (option_cases (slice_get p.states q));
      open_last = λ q h.
          let s = element_at p.states q (omega arith) in
          let e = state_ends p k q s.0 s.1 in
          ap ends_open (lines_some ns ss p.states q s.0 s.1) ∙ open_end ns ss s.0.transitions e.0 e.1;
      few_branches = λ q.
          ⊎_elim
          (λ none. let zero_branches : branch_count (machine_of p) q ≡ 0 = ap (λ ls. length (branches_of ls)) (lines_none ns ss p.states q none) in omega arith)
          (λ some.
          let tree = tree_of_transitions (map (transition_spelled ns ss) some.0.transitions) in
          let is : branch_count (machine_of p) q ≡ count_leaves tree = ap (λ ls. length (branches_of ls)) (lines_some ns ss p.states q some.0 some.1)
          ∙ length_leaves tree [] in
          let ltb-false : count_leaves tree ≤ 64 = at_most (count_leaves tree)
          (kept (branches_too_often ns ss some.0) TooManyBranches some.0.line
          (flat_nil (λ s. broken_where (branches_too_often ns ss s) TooManyBranches s.line) p.states forked q some.0 some.1)) in
          omega arith)
          (option_cases (slice_get p.states q));
      cut = λ q h. ap (λ n. reaches_cutpoint (machine_of p) n q) count ∙ ends q (omega arith);
    }

-- Paths are cut at the cutpoints.
pub forks_at_cutpoint : (m : Fsmd) (q : ℕ) → forks m q ≡ is_cutpoint m q
forks_at_cutpoint m q = ap (λ n. q == m.reset || nat_lt 1 n) (sym (length_leaves (tree_of_transitions (transitions_of m q)) []))

-- Where a state is endless, no cutpoint is passed from it.
pub passes_no_cutpoint : (m : Fsmd) (q : ℕ) → IsEndless m q → (k : ℕ) → is_cutpoint m (after_steps m k q) ≡ false
passes_no_cutpoint m q e k = sym (forks_at_cutpoint m (after_steps m k q)) ∙ e.uncut k

-- a way on which a cut comes is not endless
pub not_endless : (m : Fsmd) (n q : ℕ) → reaches_cutpoint m n q ≡ true → ((k : ℕ) → is_cutpoint m (after_steps m k q) ≡ false) → ⊥
not_endless m zero q e f = let g : is_cutpoint m q ≡ false = f zero in cc
not_endless m (suc n) q e f =
    not_endless m n (first_transition_target (transitions_of m q))
    (or_other (is_cutpoint m q) (reaches_cutpoint m n (first_transition_target (transitions_of m q))) (f zero) e) (λ k. f (suc k))

pub lawful : (p : Source) → plain_faults p ≡ [] → branch_faults p ≡ []
    → ((q : ℕ) → q < length p.states → reaches_cutpoint (machine_of p) (length p.states) q ≡ true) → BreaksNoRule p
lawful p plain forked ends = record {
  plain = plain;
  branches = forked;
  ends = λ n e. not_endless (machine_of p) (length p.states) e.place (ends e.place (slice_get_within p.states e.place e.state e.is_there))
      (passes_no_cutpoint (machine_of p) e.place e.endless);
}

-- ---- where first transitions lead

first_low : (count : ℕ) (ls : List (Transition ℕ ℕ)) (l : Transition ℕ ℕ) → slice_get ls 0 ≡ Some l → l.target < count → first_transition_target ls < count
first_low count [] l e h = absurd (cc)
first_low count (x ∷ ls) l e h = let same : x ≡ l = cc in subst (λ y. y.target < count) (sym same) h

has_first : (ls : List SourceTransition) → lacks_else ls ≡ false → 0 < length ls
has_first [] e = absurd (cc)
has_first (l ∷ ls) e = omega arith

pub lead_on : (p : Source) → AreKept p → (q : ℕ) → q < length p.states → first_transition_target (transitions_of (machine_of p) q) < length p.states
lead_on p k q h =
    let vs = variables_of p.declarations in
    let ns = names_of vs in
    let ss = state_names p.states in
    let s = element_at p.states q h in
    let e = state_ends p k q s.0 s.1 in
    let l = element_at s.0.transitions 0 (has_first s.0.transitions e.0) in
    let low = (keeps_each vs (length p.states) l.0.line (transition_spelled ns ss l.0) (lines_kept p k q s.0 s.1 0 l.0 l.1)).target in
    subst (λ ls. first_transition_target ls < length p.states) (sym (lines_some ns ss p.states q s.0 s.1))
    (first_low (length p.states) (map (transition_spelled ns ss) s.0.transitions) (transition_spelled ns ss l.0)
    (slice_get-of_map (transition_spelled ns ss) s.0.transitions 0 l.0 l.1) low)
