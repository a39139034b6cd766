-- The numbers that a step touches: the values of the literals on the way taken, of the right sides, indices
-- and emitted expressions of the transition taken, and of all their parts.
use Rattle.std.specs.Prelude.{◌≢◌, ℕ, zero, suc, cond, ℤ, FitsSigned, List, [], ◌∷◌, ◌++◌, Option, Some, None}
use Rattle.std.specs.Int.{w128}
use Rattle.fs_model.specs.Expressions.{Expression, Number, Variable, Read, Sum, Difference, Product, Quotient, Remainder}
use Rattle.fs_model.specs.Expressions.{Negative, Guard}
use Rattle.fs_model.specs.Expressions.{Test, Not, And, Or, Assignment, Assign, ArrayWrite, Emit, Transition}
use Rattle.fs_model.specs.Machines.{Fsmd, transitions_of}
use Rattle.fs_model.specs.Stores.{Store}
use Rattle.fs_model.specs.Meaning.{value, holds, condition_holds}
use Rattle.fs_model.specs.Runs.{Step}

-- the value of an expression and of all its parts
abbrev pub touched_by_expression : Expression ℕ → Store → List ℤ
touched_by_expression (Number n) s = n ∷ []
touched_by_expression (Variable x) s = s.scalar x ∷ []
touched_by_expression (Read x i) s = value (Read x i) s ∷ touched_by_expression i s
touched_by_expression (Sum a b) s = value (Sum a b) s ∷ (touched_by_expression a s ++ touched_by_expression b s)
touched_by_expression (Difference a b) s = value (Difference a b) s ∷ (touched_by_expression a s ++ touched_by_expression b s)
touched_by_expression (Product a b) s = value (Product a b) s ∷ (touched_by_expression a s ++ touched_by_expression b s)
touched_by_expression (Quotient a b) s = value (Quotient a b) s ∷ (touched_by_expression a s ++ touched_by_expression b s)
touched_by_expression (Remainder a b) s = value (Remainder a b) s ∷ (touched_by_expression a s ++ touched_by_expression b s)
touched_by_expression (Negative a) s = value (Negative a) s ∷ touched_by_expression a s

-- of a guard, the literals that are looked at: the second of two only where the first leaves it open
abbrev pub touched_by_guard : Guard ℕ → Store → List ℤ
touched_by_guard (Test l) s = touched_by_expression l.left s ++ touched_by_expression l.right s
touched_by_guard (Not g) s = touched_by_guard g s
touched_by_guard (And a b) s = touched_by_guard a s ++ cond (holds a s) (touched_by_guard b s) []
touched_by_guard (Or a b) s = touched_by_guard a s ++ cond (holds a s) [] (touched_by_guard b s)

abbrev pub touched_by_condition : Option (Guard ℕ) → Store → List ℤ
touched_by_condition None s = []
touched_by_condition (Some g) s = touched_by_guard g s

abbrev pub touched_by_assignment : Assignment ℕ → Store → List ℤ
touched_by_assignment (Assign x e) s = touched_by_expression e s
touched_by_assignment (ArrayWrite x i e) s = touched_by_expression i s ++ touched_by_expression e s
touched_by_assignment (Emit x e) s = touched_by_expression e s

abbrev pub touched_by_assignments : List (Assignment ℕ) → Store → List ℤ
touched_by_assignments [] s = []
touched_by_assignments (a ∷ rest) s = touched_by_assignment a s ++ touched_by_assignments rest s

-- the guards up to the transition taken, and its assignments
abbrev pub touched_by_transitions : List (Transition ℕ ℕ) → Store → List ℤ
touched_by_transitions [] s = []
touched_by_transitions (l ∷ ls) s = touched_by_condition l.guard s
    ++ cond (condition_holds l.guard s) (touched_by_assignments l.assignments s) (touched_by_transitions ls s)

-- the numbers touched by the step from a state and a store
abbrev pub touched_by_step : Fsmd → ℕ → Store → List ℤ
touched_by_step m q s = touched_by_transitions (transitions_of m q) s

-- each number lies within 128 bits
abbrev pub AllInRange : List ℤ → Type 0
AllInRange [] = Unit {0}
AllInRange (z ∷ zs) = FitsSigned w128 z × AllInRange zs

-- from state q and store s, each number touched by the next n steps lies within 128 bits, up to the return to the reset state
abbrev pub StaysInRange : Fsmd → ℕ → ℕ → Store → Type 0
StaysInRange m zero q s = Unit {0}
StaysInRange m (suc n) q s = AllInRange (touched_by_step m q s)
    × ((r : ℕ) (t : Store) → Step m q s r t → r ≢ m.reset → StaysInRange m n r t)
