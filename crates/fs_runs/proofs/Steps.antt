-- The branch that a store takes is the step of the machine.
use Rattle.std.proofs.Common.{◌≡◌, ℕ, suc, ◌<◌, length, Bool, true, false, cond, List, [], ◌∷◌, ◌++◌, refl, sym, ◌∙◌, ap, subst}
use Rattle.std.specs.Prelude.{Option, Some, None, IsSome, option_map, map, slice_get}
use Rattle.std.specs.List.{list_all}
use Rattle.std.proofs.lemmas.Option.{slice_get-map}
use Rattle.std.proofs.lemmas.Bool.{and_from}
use Rattle.base_laws.proofs.Booleans.{and_first, and_second}
use Rattle.base_laws.proofs.Quantifiers.{list_all_front, list_all_back}
use Rattle.fs_model.specs.SoundMachines.{IsSound, IsSoundTransition, has_sort, scalar_at, array_at, port_at, scalars_in, arrays_in, scalars_in_assignments}
use Rattle.fs_model.specs.SoundMachines.{arrays_in_assignments, ports_in_assignments, scalars_in_condition, arrays_in_condition}
use Rattle.fs_model.specs.declared.parts.Sort.{Sort}
use Rattle.fs_model.specs.declared.parts.VarInfo.{VarInfo}
use Rattle.fs_model.specs.Expressions.{Assignment, Assign, ArrayWrite, Emit, Transition}
use Rattle.fs_model.specs.Machines.{Fsmd, transitions_of}
use Rattle.fs_model.specs.Stores.{Store}
use Rattle.fs_model.specs.Meaning.{condition_holds, transition_taken, act_all}
use Rattle.fs_model.specs.Runs.{Step, is_scalar, is_array as is_array_sort, is_port}
use Rattle.fs_model.specs.Touched.{touched_by_step, touched_by_assignment, touched_by_assignments, AllInRange}
use Rattle.fs_model.specs.Trees.{Branch, branches_of}
use Rattle.fs_ast.specs.OpenBranches.{TakesOneBranch}
use Rattle.fs_ast.proofs.Opens.{takes_one}
use Rattle.fs_stores.specs.declared.values.Value.{Value}
use Rattle.fs_stores.specs.declared.values.Value.TheVariants.{Num, Arr}
use Rattle.fs_stores.specs.declared.values.Value.TheVariants as values
use Rattle.fs_stores.specs.declared.changes.StepStop.{StepStop}
use Rattle.fs_stores.specs.declared.changes.StepStop.TheVariants.{PastWide, NoMemory}
use Rattle.fs_stores.specs.Values.{sort_of, HasSorts}
use Rattle.fs_stores.specs.Changes.{PastOnly}
use Rattle.fs_stores.specs.Reads.{touched_by_branches, taken_branch, Both}
use Rattle.fs_runs.specs.StepLaws.{BranchInRange, TouchedByBranches}
use Rattle.fs_stores.specs.Changes.{change_by, AssignmentFits, AssignmentsFit, changed_all, is_number_value, is_array_value, is_list, suits, AllSuit}
use Rattle.fs_stores.proofs.Ways.{both_parts, front_part, back_part, fits_touched, touched_fits, first_taken, touched_taken}

-- the changes of assignments leave what the assignments leave
pub changed_done : (acts : List (Assignment ℕ)) (before s : Store) → changed_all s (map (change_by before) acts) ≡ act_all acts before s
changed_done [] before s = refl
changed_done (Assign x e ∷ rest) before s = changed_done rest before _
changed_done (ArrayWrite x i e ∷ rest) before s = changed_done rest before _
changed_done (Emit x e ∷ rest) before s = changed_done rest before _

fits_assignment : (a : Assignment ℕ) (s : Store) → AssignmentFits s a → AllInRange (touched_by_assignment a s)
fits_assignment (Assign x e) s p = fits_touched e s p
fits_assignment (ArrayWrite x i e) s p = both_parts _ _ (fits_touched i s p.0) (fits_touched e s p.1)
fits_assignment (Emit x e) s p = fits_touched e s p

assignment_fits : (a : Assignment ℕ) (s : Store) → AllInRange (touched_by_assignment a s) → AssignmentFits s a
assignment_fits (Assign x e) s p = touched_fits e s p
assignment_fits (ArrayWrite x i e) s p = (touched_fits i s (front_part _ _ p), touched_fits e s (back_part (touched_by_assignment (Assign x i) s) _ p))
assignment_fits (Emit x e) s p = touched_fits e s p

fit_assignments : (acts : List (Assignment ℕ)) (s : Store) → AssignmentsFit s acts → AllInRange (touched_by_assignments acts s)
fit_assignments [] s p = tt
fit_assignments (a ∷ rest) s p = both_parts _ _ (fits_assignment a s p.0) (fit_assignments rest s p.1)

assignments_fit : (acts : List (Assignment ℕ)) (s : Store) → AllInRange (touched_by_assignments acts s) → AssignmentsFit s acts
assignments_fit [] s p = tt
assignments_fit (a ∷ rest) s p = (assignment_fits a s (front_part _ _ p), assignments_fit rest s (back_part (touched_by_assignment a s) _ p))

-- the transition taken is one of the state's
transition_at : (ls : List (Transition ℕ ℕ)) (s : Store) (l : Transition ℕ ℕ) → transition_taken ls s ≡ Some l → (k : ℕ) × (slice_get ls k ≡ Some l)
transition_at [] s l e = absurd (cc)
transition_at (x ∷ ls) s l e = on_guard (λ h. transition_at ls s l h) (condition_holds x.guard s) refl
  where
    on_guard : (transition_taken ls s ≡ Some l → (k : ℕ) × (slice_get ls k ≡ Some l)) → (b : Bool) → condition_holds x.guard s ≡ b
        → (k : ℕ) × (slice_get (x ∷ ls) k ≡ Some l)
    on_guard ih true h = (0, sym (ap (λ b. cond b (Some x) (transition_taken ls s)) h) ∙ e)
    on_guard ih false h = let r = ih (sym (ap (λ b. cond b (Some x) (transition_taken ls s)) h) ∙ e) in (suc r.0, r.1)

-- sorts decide

-- what a test of values says of the sort it says of the variable's
of_sort : (f : Option Value → Bool) (test : Sort → Bool) → ((w : Value) → f (Some w) ≡ test (sort_of w)) → (o : Option Value) (p : Option VarInfo)
    → option_map sort_of o ≡ option_map (λ v. v.sort) p → has_sort test p ≡ true → f o ≡ true
of_sort f test same o None e h = absurd (cc)
of_sort f test same None (Some v) e h = absurd (cc)
of_sort f test same (Some w) (Some v) e h = let q : sort_of w ≡ v.sort = cc in same w ∙ ap test q ∙ h

number_sorted : (w : Value) → is_number_value (Some w) ≡ is_scalar (sort_of w)
number_sorted (Num n) = refl
number_sorted (Arr m) = refl
number_sorted (values.List l) = refl

array_sorted : (w : Value) → is_array_value (Some w) ≡ is_array_sort (sort_of w)
array_sorted (Num n) = refl
array_sorted (Arr m) = refl
array_sorted (values.List l) = refl

list_sorted : (w : Value) → is_list (Some w) ≡ is_port (sort_of w)
list_sorted (Num n) = refl
list_sorted (Arr m) = refl
list_sorted (values.List l) = refl

same_at : (vars : List VarInfo) (vs : List Value) (x : ℕ) → map sort_of vs ≡ map (λ v. v.sort) vars
    → option_map sort_of (slice_get vs x) ≡ option_map (λ v. v.sort) (slice_get vars x)
same_at vars vs x e = sym (slice_get-map sort_of vs x) ∙ ap (λ l. slice_get l x) e ∙ slice_get-map (λ v. v.sort) vars x

suit_all : (acts : List (Assignment ℕ)) (s : Store) (vars : List VarInfo) (vs : List Value) → map sort_of vs ≡ map (λ v. v.sort) vars
    → list_all (scalar_at vars) (scalars_in_assignments acts) ≡ true → list_all (array_at vars) (arrays_in_assignments acts) ≡ true
    → list_all (port_at vars) (ports_in_assignments acts) ≡ true → list_all (suits vs) (map (change_by s) acts) ≡ true
suit_all [] s vars vs e p q r = refl
suit_all (Assign x t ∷ rest) s vars vs e p q r =
    and_from (is_number_value (slice_get vs x)) (list_all (suits vs) (map (change_by s) rest))
    (of_sort is_number_value is_scalar number_sorted (slice_get vs x) (slice_get vars x) (same_at vars vs x e)
    (and_first (scalar_at vars x) (list_all (scalar_at vars) (scalars_in t))
    (list_all_front (scalar_at vars) (x ∷ scalars_in t) (scalars_in_assignments rest) p)))
    (suit_all rest s vars vs e (list_all_back (scalar_at vars) (x ∷ scalars_in t) (scalars_in_assignments rest) p)
    (list_all_back (array_at vars) (arrays_in t) (arrays_in_assignments rest) q) r)
suit_all (ArrayWrite x i t ∷ rest) s vars vs e p q r =
    and_from (is_array_value (slice_get vs x)) (list_all (suits vs) (map (change_by s) rest))
    (of_sort is_array_value is_array_sort array_sorted (slice_get vs x) (slice_get vars x) (same_at vars vs x e)
    (and_first (array_at vars x) (list_all (array_at vars) (arrays_in i ++ arrays_in t))
    (list_all_front (array_at vars) (x ∷ (arrays_in i ++ arrays_in t)) (arrays_in_assignments rest) q)))
    (suit_all rest s vars vs e (list_all_back (scalar_at vars) (scalars_in i ++ scalars_in t) (scalars_in_assignments rest) p)
    (list_all_back (array_at vars) (x ∷ (arrays_in i ++ arrays_in t)) (arrays_in_assignments rest) q) r)
suit_all (Emit x t ∷ rest) s vars vs e p q r =
    and_from (is_list (slice_get vs x)) (list_all (suits vs) (map (change_by s) rest))
    (of_sort is_list is_port list_sorted (slice_get vs x) (slice_get vars x) (same_at vars vs x e)
    (and_first (port_at vars x) (list_all (port_at vars) (ports_in_assignments rest)) r))
    (suit_all rest s vars vs e (list_all_back (scalar_at vars) (scalars_in t) (scalars_in_assignments rest) p)
    (list_all_back (array_at vars) (arrays_in t) (arrays_in_assignments rest) q)
    (and_second (port_at vars x) (list_all (port_at vars) (ports_in_assignments rest)) r))

-- what holds of the branch that a store takes
pub record Takes (m : Fsmd) (q : ℕ) (s : Store) (b : Branch) : Type 0 where
  pub step : Step m q s b.target (changed_all s (map (change_by s) b.assignments))
  pub target : b.target < length m.states
  pub touched_there : AllInRange (touched_by_step m q s) → AllInRange (touched_by_branches (branches_of (transitions_of m q)) s)
      × AssignmentsFit s b.assignments
  pub touched_back : AllInRange (touched_by_branches (branches_of (transitions_of m q)) s) → AssignmentsFit s b.assignments → AllInRange (touched_by_step m q s)
  pub suit : (vs : List Value) → HasSorts m vs → AllSuit vs (map (change_by s) b.assignments)

pub one_branch : (m : Fsmd) (q : ℕ) (s : Store) → IsSound m → q < length m.states → TakesOneBranch (transitions_of m q) s
one_branch m q s sound h = takes_one (transitions_of m q) s (sound.open_last q h)

pub one_open : (m : Fsmd) (q : ℕ) (s : Store) (sound : IsSound m) (h : q < length m.states)
    → taken_branch (branches_of (transitions_of m q)) s ≡ Some (one_branch m q s sound h).branch
one_open m q s sound h = first_taken (transitions_of m q) s (one_branch m q s sound h)

-- what a step touches are the numbers of the branches that are tried, and of the assignments of the one taken
pub touched_by_taken : TouchedByBranches
touched_by_taken m q s b sound h e =
    let one = one_branch m q s sound h in
    let same : one.branch ≡ b = cc (e, one_open m q s sound h) in
    subst (λ c. Both (AllInRange (touched_by_step m q s)) (BranchInRange m q s c)) same (touched_taken (transitions_of m q) s (sound.open_last q h) one)

takes_branch : (m : Fsmd) (q : ℕ) (s : Store) → IsSound m → q < length m.states → (one : TakesOneBranch (transitions_of m q) s) → Takes m q s one.branch
takes_branch m q s sound h one =
    let at = transition_at (transitions_of m q) s one.transition one.taken in
    let sure : IsSoundTransition m.variables (length m.states) one.transition = sound.transitions_sound q one.transition at.0 at.1 in
    let same = touched_taken (transitions_of m q) s (sound.open_last q h) one in
    let scalars : list_all (scalar_at m.variables) (scalars_in_assignments one.transition.assignments) ≡ true =
    list_all_back (scalar_at m.variables) (scalars_in_condition one.transition.guard) _ sure.scalars in
    let arrays : list_all (array_at m.variables) (arrays_in_assignments one.transition.assignments) ≡ true =
    list_all_back (array_at m.variables) (arrays_in_condition one.transition.guard) _ sure.arrays in
    record {
      step = record {
        transition = one.transition;
        taken = one.taken;
        target = one.target;
        store = changed_done one.branch.assignments s s ∙ ap (λ a. act_all a s s) one.assignments;
      };
      target = subst (λ r. r < length m.states) (sym one.target) sure.target_in;
      touched_there = λ p. ((same.there p).0, assignments_fit one.branch.assignments s (same.there p).1);
      touched_back = λ p a. same.back (p, fit_assignments one.branch.assignments s a);
      suit = λ vs e. suit_all one.branch.assignments s m.variables vs e
          (ap (λ a. list_all (scalar_at m.variables) (scalars_in_assignments a)) one.assignments ∙ scalars)
          (ap (λ a. list_all (array_at m.variables) (arrays_in_assignments a)) one.assignments ∙ arrays)
          (ap (λ a. list_all (port_at m.variables) (ports_in_assignments a)) one.assignments ∙ sure.ports);
    }

pub takes : (m : Fsmd) (q : ℕ) (s : Store) (b : Branch) → IsSound m → q < length m.states → taken_branch (branches_of (transitions_of m q)) s ≡ Some b
    → Takes m q s b
takes m q s b sound h e =
    let one = one_branch m q s sound h in
    let f = one_open m q s sound h in
    let same : one.branch ≡ b = cc (e, f) in
    subst (λ c. Takes m q s c) same (takes_branch m q s sound h one)

pub is_open : (m : Fsmd) (q : ℕ) (s : Store) → IsSound m → q < length m.states → IsSome (taken_branch (branches_of (transitions_of m q)) s)
is_open m q s sound h = subst IsSome (sym (one_open m q s sound h)) refl

pub past_taken : (e : StepStop) (m : Fsmd) (q : ℕ) (s : Store) (b : Branch) → Takes m q s b → PastOnly e (¬ AssignmentsFit s b.assignments)
    → PastOnly e (¬ AllInRange (touched_by_step m q s))
past_taken PastWide m q s b t refused = λ p. refused (t.touched_there p).1
past_taken NoMemory m q s b t refused = tt
