-- What is sound of each transition is sound of each branch.
use Rattle.std.proofs.Common.{◌≡◌, ℕ, zero, suc, ◌≤◌, ◌<◌, List, [], ◌∷◌, length, refl, sym, ◌∙◌, ap, arith}
use Rattle.std.specs.Prelude.{Bool, true, not, ◌&&◌, nat_lt, Option, Some, None, slice_get}
use Rattle.std.specs.List.{list_all}
use Rattle.std.proofs.lemmas.List.Folds.{list_all-append}
use Rattle.std.proofs.lemmas.Bool.Decides.{nat_tests}
use Rattle.std.proofs.lemmas.Bool.{and_from, ltb-true}
use Rattle.fs_model.proofs.Booleans.{and_first, and_second}
use Rattle.fs_model.proofs.Quantifiers.{list_all_front, list_all_back, list_all_at}
use Rattle.fs_model.specs.declared.parts.VarInfo.{VarInfo}
use Rattle.fs_model.specs.Limits.{most_emits}
use Rattle.fs_model.specs.Expressions.{Literal, Guard, Test, Not, And, Or, Assignment, Transition}
use Rattle.fs_model.specs.Machines.{Fsmd, transitions_of}
use Rattle.fs_model.specs.Trees.{Branch, branches_of}
use Rattle.fs_model.specs.PartFolds.{scalars, arrays, numbers, uses_in_literal, uses_in_condition, uses_in_assignments, guard_passes, condition_passes}
use Rattle.fs_model.specs.PartFolds.{transition_passes, branch_passes}
use Rattle.fs_model.proofs.Passing.{condition_uses, assignments_uses, branches_pass}
use Rattle.fs_model.specs.SoundMachines.{scalar_at, array_at, port_at, input_at, is_text_number, scalars_in_assignment, arrays_in_assignment, port_in}
use Rattle.fs_model.specs.SoundMachines.{ports_in_assignments, numbers_in_assignment, changed_by, assigned_in, all_differ, emit_count, IsSoundTransition}
use Rattle.fs_model.specs.SoundMachines.{IsSound}
use Rattle.fs_ast.specs.Branches.{is_sound_literal, is_sound_assignment, IsSoundBranch}

-- ---- several tests together

guard_both : (p q : Literal ℕ → Bool) (g : Guard ℕ) → guard_passes p g ≡ true → guard_passes q g ≡ true → guard_passes (λ l. p l && q l) g ≡ true
guard_both p q (Test l) h i = and_from (p l) (q l) h i
guard_both p q (Not g) h i = guard_both p q g h i
guard_both p q (And a b) h i =
    and_from (guard_passes (λ l. p l && q l) a) (guard_passes (λ l. p l && q l) b)
    (guard_both p q a (and_first (guard_passes p a) (guard_passes p b) h) (and_first (guard_passes q a) (guard_passes q b) i))
    (guard_both p q b (and_second (guard_passes p a) (guard_passes p b) h) (and_second (guard_passes q a) (guard_passes q b) i))
guard_both p q (Or a b) h i =
    and_from (guard_passes (λ l. p l && q l) a) (guard_passes (λ l. p l && q l) b)
    (guard_both p q a (and_first (guard_passes p a) (guard_passes p b) h) (and_first (guard_passes q a) (guard_passes q b) i))
    (guard_both p q b (and_second (guard_passes p a) (guard_passes p b) h) (and_second (guard_passes q a) (guard_passes q b) i))

condition_both : (p q : Literal ℕ → Bool) (g : Option (Guard ℕ)) → condition_passes p g ≡ true → condition_passes q g ≡ true
    → condition_passes (λ l. p l && q l) g ≡ true
condition_both p q None h i = refl
condition_both p q (Some g) h i = guard_both p q g h i

list_both : {A : Type 0} (p q : A → Bool) (xs : List A) → list_all p xs ≡ true → list_all q xs ≡ true → list_all (λ x. p x && q x) xs ≡ true
list_both p q [] h i = refl
list_both p q (x ∷ xs) h i =
    and_from (p x && q x) (list_all (λ y. p y && q y) xs) (and_from (p x) (q x) (and_first (p x) (list_all p xs) h) (and_first (q x) (list_all q xs) i))
    (list_both p q xs (and_second (p x) (list_all p xs) h) (and_second (q x) (list_all q xs) i))

ports_uses : (p : ℕ → Bool) (bs : List (Assignment ℕ)) → list_all p (ports_in_assignments bs) ≡ list_all (λ a. list_all p (port_in a)) bs
ports_uses p [] = refl
ports_uses p (a ∷ bs) = list_all-append p (port_in a) (ports_in_assignments bs) ∙ ap (λ r. list_all p (port_in a) && r) (ports_uses p bs)

-- ---- one transition

abbrev sound_assignments : List VarInfo → List (Assignment ℕ) → Bool
sound_assignments vs bs = list_all (is_sound_assignment vs) bs && (all_differ (assigned_in bs) && not (nat_lt most_emits (emit_count bs)))

abbrev low : ℕ → ℕ → Bool
low count r = nat_lt r count

few_true : (most n : ℕ) → n ≤ most → not (nat_lt most n) ≡ true
few_true most n h = grind (arith, nat_tests)

true_few : (most n : ℕ) → not (nat_lt most n) ≡ true → n ≤ most
true_few most n h = grind (arith, nat_tests)

low_true : (r count : ℕ) → r < count → low count r ≡ true
low_true r count h = grind (arith, nat_tests)

passes : (vs : List VarInfo) (count : ℕ) (l : Transition ℕ ℕ) → IsSoundTransition vs count l
    → transition_passes (is_sound_literal vs) (sound_assignments vs) (low count) l ≡ true
passes vs count l s =
    let bs = l.assignments in
    let sg = sym (condition_uses (scalar_at vs) scalars l.guard)
    ∙ list_all_front (scalar_at vs) (uses_in_condition scalars l.guard) (uses_in_assignments scalars bs) s.scalars in
    let ag = sym (condition_uses (array_at vs) arrays l.guard)
    ∙ list_all_front (array_at vs) (uses_in_condition arrays l.guard) (uses_in_assignments arrays bs) s.arrays in
    let ng = sym (condition_uses is_text_number numbers l.guard)
    ∙ list_all_front is_text_number (uses_in_condition numbers l.guard) (uses_in_assignments numbers bs) s.numbers in
    let sa = sym (assignments_uses (scalar_at vs) scalars bs)
    ∙ list_all_back (scalar_at vs) (uses_in_condition scalars l.guard) (uses_in_assignments scalars bs) s.scalars in
    let aa = sym (assignments_uses (array_at vs) arrays bs)
    ∙ list_all_back (array_at vs) (uses_in_condition arrays l.guard) (uses_in_assignments arrays bs) s.arrays in
    let na = sym (assignments_uses is_text_number numbers bs)
    ∙ list_all_back is_text_number (uses_in_condition numbers l.guard) (uses_in_assignments numbers bs) s.numbers in
    let pa = sym (ports_uses (port_at vs) bs) ∙ s.ports in
    let ps : Literal ℕ → Bool = λ k. list_all (scalar_at vs) (uses_in_literal scalars k) in
    let pr : Literal ℕ → Bool = λ k. list_all (array_at vs) (uses_in_literal arrays k) in
    let pn : Literal ℕ → Bool = λ k. list_all is_text_number (uses_in_literal numbers k) in
    let qs : Assignment ℕ → Bool = λ a. list_all (scalar_at vs) (scalars_in_assignment a) in
    let qa : Assignment ℕ → Bool = λ a. list_all (array_at vs) (arrays_in_assignment a) in
    let qp : Assignment ℕ → Bool = λ a. list_all (port_at vs) (port_in a) in
    let qn : Assignment ℕ → Bool = λ a. list_all is_text_number (numbers_in_assignment a) in
    let qi : Assignment ℕ → Bool = λ a. not (input_at vs (changed_by a)) in
    let guard = condition_both ps (λ k. pr k && pn k) l.guard sg (condition_both pr pn l.guard ag ng) in
    let each = list_both qs (λ a. qa a && (qp a && (qn a && qi a))) bs sa
    (list_both qa (λ a. qp a && (qn a && qi a)) bs aa (list_both qp (λ a. qn a && qi a) bs pa (list_both qn qi bs na s.inputs_stay))) in
    let whole = and_from (list_all (is_sound_assignment vs) bs) (all_differ (assigned_in bs) && not (nat_lt most_emits (emit_count bs))) each
    (and_from (all_differ (assigned_in bs)) (not (nat_lt most_emits (emit_count bs))) s.assigned_once (few_true most_emits (emit_count bs) s.few_emits))
    in
    and_from (condition_passes (is_sound_literal vs) l.guard) (sound_assignments vs bs && low count l.target) guard
    (and_from (sound_assignments vs bs) (low count l.target) whole (low_true l.target count s.target_in))

-- ---- all transitions

all_at : {A : Type 0} (p : A → Bool) (xs : List A) → ((k : ℕ) (x : A) → slice_get xs k ≡ Some x → p x ≡ true) → list_all p xs ≡ true
all_at p [] h = refl
all_at p (x ∷ xs) h = and_from (p x) (list_all p xs) (h zero x refl) (all_at p xs (λ k y e. h (suc k) y e))

pub branch_sound : (m : Fsmd) → IsSound m → (q k : ℕ) (b : Branch) → slice_get (branches_of (transitions_of m q)) k ≡ Some b
    → IsSoundBranch m.variables (length m.states) b
branch_sound m s q k b e =
    let vs = m.variables in
    let count = length m.states in
    let ls = transitions_of m q in
    let T = is_sound_literal vs in
    let C = sound_assignments vs in
    let S = low count in
    let all = branches_pass T (λ l. refl) C S ls (all_at (transition_passes T C S) ls (λ j l at. passes vs count l (s.transitions_sound q l j at))) in
    let one = list_all_at (branch_passes T C S) (branches_of ls) k b all e in
    let rest = and_second (list_all T b.literals) (C b.assignments && S b.target) one in
    let whole = and_first (C b.assignments) (S b.target) rest in
    let after = and_second (list_all (is_sound_assignment vs) b.assignments)
    (all_differ (assigned_in b.assignments) && not (nat_lt most_emits (emit_count b.assignments))) whole in
    record {
      literals = and_first (list_all T b.literals) (C b.assignments && S b.target) one;
      assignments = and_first (list_all (is_sound_assignment vs) b.assignments)
          (all_differ (assigned_in b.assignments) && not (nat_lt most_emits (emit_count b.assignments))) whole;
      assigned_once = and_first (all_differ (assigned_in b.assignments)) (not (nat_lt most_emits (emit_count b.assignments))) after;
      few_emits = true_few most_emits (emit_count b.assignments)
          (and_second (all_differ (assigned_in b.assignments)) (not (nat_lt most_emits (emit_count b.assignments))) after);
      target_in = ltb-true b.target count (and_second (C b.assignments) (S b.target) rest);
    }
