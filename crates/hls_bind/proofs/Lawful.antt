-- The parts in which registers stand for locals keep the rules, where no branch is twice.
use Rattle.std.proofs.Common.{◌≡◌, ℕ, ℤ, List, [], ◌∷◌, ◌++◌, map, ap, ap₂, sym, refl, ◌∙◌, Bool, true, false, Option, Some, None}
use Rattle.std.specs.Prelude.{◌==◌, ◌||◌, not, slice_get, option_map}
use Rattle.std.specs.List.{list_all}
use Rattle.std.proofs.lemmas.Bool.{or_parts, or_left, and_from, or_right, not-true, eqb-false, eqb-true, eq-eqb}
use Rattle.std.proofs.lemmas.List.{map-append}
use Rattle.fs_model.proofs.Booleans.{and_first, and_second}
use Rattle.fs_model.specs.declared.parts.Sort.{Sort}
use Rattle.fs_model.specs.declared.parts.VarInfo.{VarInfo}
use Rattle.fs_model.specs.Expressions.{Expression, Number, Variable, Read, Sum, Difference, Product, Quotient, Remainder, Negative, Guard, Test, Not, And, Or}
use Rattle.fs_model.specs.Expressions.{Assignment}
use Rattle.fs_model.specs.Expressions.{Assign, ArrayWrite, Emit, Transition}
use Rattle.fs_model.specs.Renamed.{expression_over, guard_over, assignment_over}
use Rattle.fs_model.specs.PartFolds.{Listing, scalars, arrays, uses_in, uses_in_guard, uses_in_condition, uses_in_assignment, uses_in_assignments}
use Rattle.fs_model.specs.SoundMachines.{has_sort, input_at, changed_by, assigned_in, occurs, all_differ, scalars_in_condition, arrays_in_condition}
use Rattle.fs_model.specs.SoundMachines.{scalars_in_assignments, arrays_in_assignments, port_in, ports_in_assignments}

-- ---- tests

-- ---- what a part with other numbers uses
module _ (u : Listing ℕ) (f : ℕ → ℕ) (scalar_over : (x : ℕ) → u.of_scalar (f x) ≡ map f (u.of_scalar x))
    (array_over : (x : ℕ) → u.of_array (f x) ≡ map f (u.of_array x)) (of_numbers : (z : ℤ) → u.of_number z ≡ map f (u.of_number z)) where
  joined_over : (a b c d : List ℕ) → a ≡ map f c → b ≡ map f d → a ++ b ≡ map f (c ++ d)
  joined_over a b c d e h = ap₂ (λ (x y : List ℕ). x ++ y) e h ∙ sym (map-append f c d)

  expression_uses : (e : Expression ℕ) → uses_in u (expression_over f e) ≡ map f (uses_in u e)
  expression_uses (Number n) = of_numbers n
  expression_uses (Variable x) = scalar_over x
  expression_uses (Read x i) = joined_over _ _ (u.of_array x) (uses_in u i) (array_over x) (expression_uses i)
  expression_uses (Sum a b) = joined_over _ _ (uses_in u a) (uses_in u b) (expression_uses a) (expression_uses b)
  expression_uses (Difference a b) = joined_over _ _ (uses_in u a) (uses_in u b) (expression_uses a) (expression_uses b)
  expression_uses (Product a b) = joined_over _ _ (uses_in u a) (uses_in u b) (expression_uses a) (expression_uses b)
  expression_uses (Quotient a b) = joined_over _ _ (uses_in u a) (uses_in u b) (expression_uses a) (expression_uses b)
  expression_uses (Remainder a b) = joined_over _ _ (uses_in u a) (uses_in u b) (expression_uses a) (expression_uses b)
  expression_uses (Negative a) = expression_uses a

  guard_uses : (g : Guard ℕ) → uses_in_guard u (guard_over f g) ≡ map f (uses_in_guard u g)
  guard_uses (Test l) = joined_over _ _ (uses_in u l.left) (uses_in u l.right) (expression_uses l.left) (expression_uses l.right)
  guard_uses (Not g) = guard_uses g
  guard_uses (And a b) = joined_over _ _ (uses_in_guard u a) (uses_in_guard u b) (guard_uses a) (guard_uses b)
  guard_uses (Or a b) = joined_over _ _ (uses_in_guard u a) (uses_in_guard u b) (guard_uses a) (guard_uses b)

  condition_uses : (g : Option (Guard ℕ)) → uses_in_condition u (option_map (guard_over f) g) ≡ map f (uses_in_condition u g)
  condition_uses None = refl
  condition_uses (Some g) = guard_uses g

  assignment_uses : (a : Assignment ℕ) → uses_in_assignment u (assignment_over f a) ≡ map f (uses_in_assignment u a)
  assignment_uses (Assign x e) = joined_over _ _ (u.of_scalar x) (uses_in u e) (scalar_over x) (expression_uses e)
  assignment_uses (ArrayWrite x i e) = joined_over _ _ (u.of_array x) (uses_in u i ++ uses_in u e) (array_over x)
      (joined_over _ _ (uses_in u i) (uses_in u e) (expression_uses i) (expression_uses e))
  assignment_uses (Emit x e) = expression_uses e

  assignments_uses : (acts : List (Assignment ℕ)) → uses_in_assignments u (map (assignment_over f) acts) ≡ map f (uses_in_assignments u acts)
  assignments_uses [] = refl
  assignments_uses (a ∷ acts) = joined_over _ _ (uses_in_assignment u a) (uses_in_assignments u acts) (assignment_uses a) (assignments_uses acts)

  pub transition_uses : (l : Transition ℕ ℕ)
      → (uses_in_condition u (option_map (guard_over f) l.guard) ++ uses_in_assignments u (map (assignment_over f) l.assignments))
      ≡ map f (uses_in_condition u l.guard ++ uses_in_assignments u l.assignments)
  transition_uses l = joined_over _ _ (uses_in_condition u l.guard) (uses_in_assignments u l.assignments) (condition_uses l.guard)
      (assignments_uses l.assignments)

module _ (f : ℕ → ℕ) where
  pub scalars_over : (l : Transition ℕ ℕ)
      → (scalars_in_condition (option_map (guard_over f) l.guard) ++ scalars_in_assignments (map (assignment_over f) l.assignments))
      ≡ map f (scalars_in_condition l.guard ++ scalars_in_assignments l.assignments)
  scalars_over l = transition_uses scalars f (λ x. refl) (λ x. refl) (λ z. refl) l

  pub arrays_over : (l : Transition ℕ ℕ)
      → (arrays_in_condition (option_map (guard_over f) l.guard) ++ arrays_in_assignments (map (assignment_over f) l.assignments))
      ≡ map f (arrays_in_condition l.guard ++ arrays_in_assignments l.assignments)
  arrays_over l = transition_uses arrays f (λ x. refl) (λ x. refl) (λ z. refl) l

  port_over : (a : Assignment ℕ) → port_in (assignment_over f a) ≡ map f (port_in a)
  port_over (Assign x e) = refl
  port_over (ArrayWrite x i e) = refl
  port_over (Emit x e) = refl

  pub ports_over : (acts : List (Assignment ℕ)) → ports_in_assignments (map (assignment_over f) acts) ≡ map f (ports_in_assignments acts)
  ports_over [] = refl
  ports_over (a ∷ acts) = ap₂ (λ (x y : List ℕ). x ++ y) (port_over a) (ports_over acts) ∙ sym (map-append f (port_in a) (ports_in_assignments acts))

  pub assigned_over : (acts : List (Assignment ℕ)) → assigned_in (map (assignment_over f) acts) ≡ map f (assigned_in acts)
  assigned_over [] = refl
  assigned_over (Assign x e ∷ acts) = ap (λ (xs : List ℕ). f x ∷ xs) (assigned_over acts)
  assigned_over (ArrayWrite x i e ∷ acts) = assigned_over acts
  assigned_over (Emit x e ∷ acts) = assigned_over acts

  pub changed_over : (a : Assignment ℕ) → changed_by (assignment_over f a) ≡ f (changed_by a)
  changed_over (Assign x e) = refl
  changed_over (ArrayWrite x i e) = refl
  changed_over (Emit x e) = refl

-- ---- sorts of variables that keep theirs
module _ (f : ℕ → ℕ) (vs ws : List VarInfo)
    (keeps : (test : Sort → Bool) (x : ℕ) → has_sort test (slice_get vs x) ≡ true → has_sort test (slice_get ws (f x)) ≡ true) where
  pub sorts_kept : (test : Sort → Bool) (xs : List ℕ) → list_all (λ x. has_sort test (slice_get vs x)) xs ≡ true
      → list_all (λ x. has_sort test (slice_get ws x)) (map f xs) ≡ true
  sorts_kept test [] h = refl
  sorts_kept test (x ∷ xs) h =
      and_from (has_sort test (slice_get ws (f x))) (list_all (λ y. has_sort test (slice_get ws y)) (map f xs))
      (keeps test x (and_first (has_sort test (slice_get vs x)) (list_all (λ y. has_sort test (slice_get vs y)) xs) h))
      (sorts_kept test xs (and_second (has_sort test (slice_get vs x)) (list_all (λ y. has_sort test (slice_get vs y)) xs) h))

module _ (f : ℕ → ℕ) (vs ws : List VarInfo) (keeps : (x : ℕ) → input_at vs x ≡ false → input_at ws (f x) ≡ false) where
  pub inputs_kept : (acts : List (Assignment ℕ)) → list_all (λ a. not (input_at vs (changed_by a))) acts ≡ true
      → list_all (λ a. not (input_at ws (changed_by a))) (map (assignment_over f) acts) ≡ true
  inputs_kept [] h = refl
  inputs_kept (a ∷ acts) h =
      let here = not-true (input_at vs (changed_by a))
      (and_first (not (input_at vs (changed_by a))) (list_all (λ c. not (input_at vs (changed_by c))) acts) h) in
      and_from (not (input_at ws (changed_by (assignment_over f a)))) (list_all (λ c. not (input_at ws (changed_by c))) (map (assignment_over f) acts))
      (ap not (ap (input_at ws) (changed_over f a) ∙ keeps (changed_by a) here))
      (inputs_kept acts (and_second (not (input_at vs (changed_by a))) (list_all (λ c. not (input_at vs (changed_by c))) acts) h))

-- ---- numbers that stay apart
module _ (f : ℕ → ℕ) where
  absent_by : (x y : ℕ) (ys : List ℕ) (t : Bool) → (f y == f x) ≡ t → (f y ≡ f x → y ≡ x) → (y == x) ≡ false → occurs (f x) (map f ys) ≡ false
      → (t || occurs (f x) (map f ys)) ≡ false
  absent_by x y ys true e one h i = absurd (eqb-false y x h (one (eqb-true (f y) (f x) e)))
  absent_by x y ys false e one h i = i

  absent : (x : ℕ) (ys : List ℕ) → ((y : ℕ) → occurs y ys ≡ true → f y ≡ f x → y ≡ x) → occurs x ys ≡ false → occurs (f x) (map f ys) ≡ false
  absent x [] one h = refl
  absent x (y ∷ ys) one h =
      let rest = or_parts (y == x) (occurs x ys) h in
      absent_by x y ys (f y == f x) refl (one y (or_left (y == y) (occurs y ys) (eq-eqb y y refl))) rest.0
      (absent x ys (λ z e g. one z (or_right (y == z) (occurs z ys) e) g) rest.1)

  pub still_differ : (xs : List ℕ) → ((x y : ℕ) → occurs x xs ≡ true → occurs y xs ≡ true → f x ≡ f y → x ≡ y) → all_differ xs ≡ true
      → all_differ (map f xs) ≡ true
  still_differ [] one h = refl
  still_differ (x ∷ xs) one h =
      let out = not-true (occurs x xs) (and_first (not (occurs x xs)) (all_differ xs) h) in
      and_from (not (occurs (f x) (map f xs))) (all_differ (map f xs))
      (ap not (absent x xs (λ y e g. one y x (or_right (x == y) (occurs y xs) e) (or_left (x == x) (occurs x xs) (eq-eqb x x refl)) g) out))
      (still_differ xs (λ y z e g. one y z (or_right (x == y) (occurs y xs) e) (or_right (x == z) (occurs z xs) g))
      (and_second (not (occurs x xs)) (all_differ xs) h))
