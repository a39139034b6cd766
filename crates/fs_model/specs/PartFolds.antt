-- What the parts of a machine use and pass: folds over expressions, guards, assignments, transitions and branches.
use Rattle.std.specs.Prelude.{ℕ, Bool, true, ◌&&◌, ℤ, List, [], ◌∷◌, ◌++◌, Option, Some, None}
use Rattle.std.specs.List.{list_all}
use Rattle.fs_model.specs.Expressions.{Expression, Number, Variable, Read, Sum, Difference, Product, Quotient, Remainder}
use Rattle.fs_model.specs.Expressions.{Negative, Literal}
use Rattle.fs_model.specs.Expressions.{Guard, Test, Not, And, Or, Assignment, Assign, ArrayWrite, Emit, Transition}
use Rattle.fs_model.specs.Machines.{State}
use Rattle.fs_model.specs.Trees.{Branch}

-- ---- uses

-- what is listed of a number, of a scalar by its value, and of an array by an element
pub record Listing (A : Type 0) : Type 0 where
  pub of_number : ℤ → List A
  pub of_scalar : ℕ → List A
  pub of_array : ℕ → List A

-- the uses of a part, in order of its text
abbrev pub uses_in : {A : Type 0} → Listing A → Expression ℕ → List A
uses_in u (Number n) = u.of_number n
uses_in u (Variable x) = u.of_scalar x
uses_in u (Read x i) = u.of_array x ++ uses_in u i
uses_in u (Sum a b) = uses_in u a ++ uses_in u b
uses_in u (Difference a b) = uses_in u a ++ uses_in u b
uses_in u (Product a b) = uses_in u a ++ uses_in u b
uses_in u (Quotient a b) = uses_in u a ++ uses_in u b
uses_in u (Remainder a b) = uses_in u a ++ uses_in u b
uses_in u (Negative a) = uses_in u a

abbrev pub uses_in_literal : {A : Type 0} → Listing A → Literal ℕ → List A
uses_in_literal u l = uses_in u l.left ++ uses_in u l.right

abbrev pub uses_in_guard : {A : Type 0} → Listing A → Guard ℕ → List A
uses_in_guard u (Test l) = uses_in u l.left ++ uses_in u l.right
uses_in_guard u (Not g) = uses_in_guard u g
uses_in_guard u (And a b) = uses_in_guard u a ++ uses_in_guard u b
uses_in_guard u (Or a b) = uses_in_guard u a ++ uses_in_guard u b

abbrev pub uses_in_condition : {A : Type 0} → Listing A → Option (Guard ℕ) → List A
uses_in_condition u None = []
uses_in_condition u (Some g) = uses_in_guard u g

abbrev pub uses_in_assignment : {A : Type 0} → Listing A → Assignment ℕ → List A
uses_in_assignment u (Assign x e) = u.of_scalar x ++ uses_in u e
uses_in_assignment u (ArrayWrite x i e) = u.of_array x ++ (uses_in u i ++ uses_in u e)
uses_in_assignment u (Emit x e) = uses_in u e

abbrev pub uses_in_assignments : {A : Type 0} → Listing A → List (Assignment ℕ) → List A
uses_in_assignments u [] = []
uses_in_assignments u (a ∷ rest) = uses_in_assignment u a ++ uses_in_assignments u rest

abbrev pub uses_in_transitions : {A : Type 0} → Listing A → List (Transition ℕ ℕ) → List A
uses_in_transitions u [] = []
uses_in_transitions u (l ∷ ls) = uses_in_condition u l.guard ++ (uses_in_assignments u l.assignments ++ uses_in_transitions u ls)

abbrev pub uses_in_states : {A : Type 0} → Listing A → List State → List A
uses_in_states u [] = []
uses_in_states u (s ∷ ss) = uses_in_transitions u s.transitions ++ uses_in_states u ss

-- the scalars alone, by their values and by assignments to them
abbrev pub scalars : Listing ℕ
scalars = record { of_number = λ n. []; of_scalar = λ x. x ∷ []; of_array = λ x. [] }

-- the arrays alone, by their elements and by writes to them
abbrev pub arrays : Listing ℕ
arrays = record { of_number = λ n. []; of_scalar = λ x. []; of_array = λ x. x ∷ [] }

-- the numbers alone
abbrev pub numbers : Listing ℤ
numbers = record { of_number = λ n. n ∷ []; of_scalar = λ x. []; of_array = λ x. [] }

-- ---- tests

-- each literal of a guard passes a test
abbrev pub guard_passes : (Literal ℕ → Bool) → Guard ℕ → Bool
guard_passes T (Test l) = T l
guard_passes T (Not g) = guard_passes T g
guard_passes T (And a b) = guard_passes T a && guard_passes T b
guard_passes T (Or a b) = guard_passes T a && guard_passes T b

abbrev pub condition_passes : (Literal ℕ → Bool) → Option (Guard ℕ) → Bool
condition_passes T None = true
condition_passes T (Some g) = guard_passes T g

-- each literal passes T, the assignments C, and the target S
abbrev pub transition_passes : (Literal ℕ → Bool) → (List (Assignment ℕ) → Bool) → (ℕ → Bool) → Transition ℕ ℕ → Bool
transition_passes T C S l = condition_passes T l.guard && (C l.assignments && S l.target)

abbrev pub branch_passes : (Literal ℕ → Bool) → (List (Assignment ℕ) → Bool) → (ℕ → Bool) → Branch → Bool
branch_passes T C S b = list_all T b.literals && (C b.assignments && S b.target)
