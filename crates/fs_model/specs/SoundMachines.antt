-- What holds of each machine that was built: names, sorts and numbers right, and no way round without end.
use Rattle.std.specs.Prelude.{◌≡◌, ℕ, zero, suc, ◌+◌, ◌^◌, ◌<◌, ◌≤◌, ◌==◌, nat_lt, Bool, true, false, not, ◌&&◌, ◌||◌, IsTrue, ℤ}
use Rattle.std.specs.Prelude.{pos, int_lt, List, [], ◌∷◌, ◌++◌, length, map, Option, Some, None, is_none, slice_get}
use Rattle.std.specs.List.{list_all, list_any}
use Rattle.std.specs.Str.{bytes_eq}
use Rattle.fs_model.specs.declared.parts.Sort.{Sort}
use Rattle.fs_model.specs.declared.parts.VarInfo.{VarInfo}
use Rattle.fs_model.specs.Words.{is_name}
use Rattle.fs_model.specs.Limits.{most_variables, most_states, most_branches, most_emits}
use Rattle.fs_model.specs.Expressions.{Expression, Guard, Assignment, Assign, ArrayWrite, Emit, Transition}
use Rattle.fs_model.specs.Machines.{State, Fsmd, transitions_of}
use Rattle.fs_model.specs.Runs.{is_input, is_scalar, is_array, is_port}
use Rattle.fs_model.specs.Trees.{branches_of}
use Rattle.fs_model.specs.PartFolds.{scalars, arrays, numbers, uses_in, uses_in_guard, uses_in_condition, uses_in_assignment}
use Rattle.fs_model.specs.PartFolds.{uses_in_assignments, uses_in_transitions, uses_in_states}

-- the variables that a part uses, in order of its text: scalars by their values and by assignments, arrays by their elements, and
-- ports by emits
abbrev pub scalars_in : Expression ℕ → List ℕ
scalars_in t = uses_in scalars t

abbrev pub arrays_in : Expression ℕ → List ℕ
arrays_in t = uses_in arrays t

abbrev pub scalars_in_guard : Guard ℕ → List ℕ
scalars_in_guard g = uses_in_guard scalars g

abbrev pub arrays_in_guard : Guard ℕ → List ℕ
arrays_in_guard g = uses_in_guard arrays g

abbrev pub scalars_in_condition : Option (Guard ℕ) → List ℕ
scalars_in_condition g = uses_in_condition scalars g

abbrev pub arrays_in_condition : Option (Guard ℕ) → List ℕ
arrays_in_condition g = uses_in_condition arrays g

abbrev pub scalars_in_assignment : Assignment ℕ → List ℕ
scalars_in_assignment a = uses_in_assignment scalars a

abbrev pub arrays_in_assignment : Assignment ℕ → List ℕ
arrays_in_assignment a = uses_in_assignment arrays a

abbrev pub scalars_in_assignments : List (Assignment ℕ) → List ℕ
scalars_in_assignments l = uses_in_assignments scalars l

abbrev pub arrays_in_assignments : List (Assignment ℕ) → List ℕ
arrays_in_assignments l = uses_in_assignments arrays l

-- the ports that assignments emit to, in order
abbrev pub port_in : Assignment ℕ → List ℕ
port_in (Assign x e) = []
port_in (ArrayWrite x i e) = []
port_in (Emit x e) = x ∷ []

abbrev pub ports_in_assignments : List (Assignment ℕ) → List ℕ
ports_in_assignments [] = []
ports_in_assignments (a ∷ rest) = port_in a ++ ports_in_assignments rest

-- how many assignments are emits
abbrev pub emits_of : {X : Type 0} → Assignment X → ℕ
emits_of (Assign x e) = 0
emits_of (ArrayWrite x i e) = 0
emits_of (Emit x e) = 1

abbrev pub emit_count : {X : Type 0} → List (Assignment X) → ℕ
emit_count [] = 0
emit_count (a ∷ rest) = emits_of a + emit_count rest

-- the variable that an assignment changes
abbrev pub changed_by : Assignment ℕ → ℕ
changed_by (Assign x e) = x
changed_by (ArrayWrite x i e) = x
changed_by (Emit x e) = x

-- the scalars that assignments assign, in order
abbrev pub assigned_in : List (Assignment ℕ) → List ℕ
assigned_in [] = []
assigned_in (Assign x e ∷ rest) = x ∷ assigned_in rest
assigned_in (ArrayWrite x i e ∷ rest) = assigned_in rest
assigned_in (Emit x e ∷ rest) = assigned_in rest

-- whether a variable is there whose sort passes a test
abbrev pub has_sort : (Sort → Bool) → Option VarInfo → Bool
has_sort test None = false
has_sort test (Some v) = test v.sort

-- whether a variable is there, and is a scalar, an array, a port, or an input
abbrev pub scalar_at : List VarInfo → ℕ → Bool
scalar_at vs x = has_sort is_scalar (slice_get vs x)

abbrev pub array_at : List VarInfo → ℕ → Bool
array_at vs x = has_sort is_array (slice_get vs x)

abbrev pub port_at : List VarInfo → ℕ → Bool
port_at vs x = has_sort is_port (slice_get vs x)

-- whether a variable is there, and is of another sort
abbrev pub other_sort_at : (Sort → Bool) → List VarInfo → ℕ → Bool
other_sort_at test vs x = has_sort (λ s. not (test s)) (slice_get vs x)

abbrev pub is_input_of : Option VarInfo → Bool
is_input_of None = false
is_input_of (Some v) = is_input v.role

abbrev pub input_at : List VarInfo → ℕ → Bool
input_at vs x = is_input_of (slice_get vs x)

abbrev pub occurs : ℕ → List ℕ → Bool
occurs x xs = list_any (λ y. y == x) xs

-- no number stands twice
abbrev pub all_differ : List ℕ → Bool
all_differ [] = true
all_differ (x ∷ xs) = not (occurs x xs) && all_differ xs

-- no name stands twice
abbrev pub names_differ : List (List ℕ) → Bool
names_differ [] = true
names_differ (n ∷ ns) = not (list_any (λ m. bytes_eq m n) ns) && names_differ ns

-- the numbers of guards and assignments, in order of the text
abbrev pub numbers_in : Expression ℕ → List ℤ
numbers_in t = uses_in numbers t

abbrev pub numbers_in_guard : Guard ℕ → List ℤ
numbers_in_guard g = uses_in_guard numbers g

abbrev pub numbers_in_condition : Option (Guard ℕ) → List ℤ
numbers_in_condition g = uses_in_condition numbers g

abbrev pub numbers_in_assignment : Assignment ℕ → List ℤ
numbers_in_assignment a = uses_in_assignment numbers a

abbrev pub numbers_in_assignments : List (Assignment ℕ) → List ℤ
numbers_in_assignments l = uses_in_assignments numbers l

abbrev pub numbers_in_transitions : List (Transition ℕ ℕ) → List ℤ
numbers_in_transitions ls = uses_in_transitions numbers ls

abbrev pub numbers_in_states : List State → List ℤ
numbers_in_states ss = uses_in_states numbers ss

-- from 0 to the largest number of a text
abbrev pub is_text_number : ℤ → Bool
is_text_number n = not (int_lt n (pos 0)) && int_lt n (pos (2 ^ 127))

-- a transition uses scalars, arrays as arrays and ports, changes no input, assigns no scalar twice,
-- emits at most so often, has numbers that a text can have, and leads to a state
pub record IsSoundTransition (vs : List VarInfo) (count : ℕ) (l : Transition ℕ ℕ) : Type 0 where
  pub scalars : IsTrue (list_all (scalar_at vs) (scalars_in_condition l.guard ++ scalars_in_assignments l.assignments))
  pub arrays : IsTrue (list_all (array_at vs) (arrays_in_condition l.guard ++ arrays_in_assignments l.assignments))
  pub ports : IsTrue (list_all (port_at vs) (ports_in_assignments l.assignments))
  pub numbers : IsTrue (list_all is_text_number (numbers_in_condition l.guard ++ numbers_in_assignments l.assignments))
  pub inputs_stay : IsTrue (list_all (λ a. not (input_at vs (changed_by a))) l.assignments)
  pub assigned_once : IsTrue (all_differ (assigned_in l.assignments))
  pub few_emits : emit_count l.assignments ≤ most_emits
  pub target_in : l.target < count

-- a transition without guard
abbrev pub is_open : Transition ℕ ℕ → Bool
is_open l = is_none l.guard

-- the last transition has no guard, and each other one has
abbrev pub ends_open : List (Transition ℕ ℕ) → Bool
ends_open [] = false
ends_open (l ∷ []) = is_open l
ends_open (l ∷ k ∷ rest) = not (is_open l) && ends_open (k ∷ rest)

-- the number of branches of a state
abbrev pub branch_count : Fsmd → ℕ → ℕ
branch_count m q = length (branches_of (transitions_of m q))

-- where the first transition leads, which is the only one of a state with one branch
abbrev pub first_transition_target : List (Transition ℕ ℕ) → ℕ
first_transition_target [] = 0
first_transition_target (l ∷ ls) = l.target

-- a path is cut at the reset state and at each state with more than one branch
abbrev pub is_cutpoint : Fsmd → ℕ → Bool
is_cutpoint m q = (q == m.reset) || nat_lt 1 (branch_count m q)

-- within n steps through states with one branch a cutpoint comes
abbrev pub reaches_cutpoint : Fsmd → ℕ → ℕ → Bool
reaches_cutpoint m zero q = is_cutpoint m q
reaches_cutpoint m (suc n) q = is_cutpoint m q || reaches_cutpoint m n (first_transition_target (transitions_of m q))

pub record IsSound (m : Fsmd) : Type 0 where
  pub few_variables : length m.variables ≤ most_variables
  pub few_states : length m.states ≤ most_states
  pub variables_differ : IsTrue (names_differ (map (λ v. v.name) m.variables))
  pub variables_named : IsTrue (list_all (λ v. is_name v.name) m.variables)
  pub states_named : IsTrue (list_all (λ s. is_name s.name) m.states)
  pub states_differ : IsTrue (names_differ (map (λ s. s.name) m.states))
  pub reset_in : m.reset < length m.states
  pub transitions_sound : (q : ℕ) (l : Transition ℕ ℕ) (k : ℕ) → slice_get (transitions_of m q) k ≡ Some l
      → IsSoundTransition m.variables (length m.states) l
  pub open_last : (q : ℕ) → q < length m.states → IsTrue (ends_open (transitions_of m q))
  pub few_branches : (q : ℕ) → branch_count m q ≤ most_branches
  pub cut : (q : ℕ) → q < length m.states → IsTrue (reaches_cutpoint m (length m.states) q)
