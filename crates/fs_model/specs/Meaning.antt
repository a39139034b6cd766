-- What expressions, guards and assignments mean in a store. Numbers have no bounds.
use Rattle.std.specs.Prelude.{ℕ, Bool, true, not, ◌&&◌, ◌||◌, cond, ℤ, ◌+ℤ◌, ◌-ℤ◌, ◌*ℤ◌, neg_ℤ, int_lt, List, [], ◌∷◌, Option}
use Rattle.std.specs.Prelude.{Some, None}
use Rattle.std.specs.Ordering.{int_eq}
use Rattle.base_laws.specs.Division.{quotient, remainder}
use Rattle.fs_model.specs.declared.parts.Rel.{Rel}
use Rattle.fs_model.specs.declared.parts.Rel.TheVariants.{Eq, Ne, Lt, Le, Gt, Ge}
use Rattle.fs_model.specs.Expressions.{Expression, Number, Variable, Read, Sum, Difference, Product, Quotient, Remainder}
use Rattle.fs_model.specs.Expressions.{Negative, Literal}
use Rattle.fs_model.specs.Expressions.{Guard, Test, Not, And, Or, Assignment, Assign, ArrayWrite, Emit, Transition}
use Rattle.fs_model.specs.Stores.{Store, store_with_number, store_with_entry, store_with_emit}

abbrev pub value : Expression ℕ → Store → ℤ
value (Number n) s = n
value (Variable x) s = s.scalar x
value (Read x i) s = s.array x (value i s)
value (Sum a b) s = value a s +ℤ value b s
value (Difference a b) s = value a s -ℤ value b s
value (Product a b) s = value a s *ℤ value b s
value (Quotient a b) s = quotient (value a s) (value b s)
value (Remainder a b) s = remainder (value a s) (value b s)
value (Negative a) s = neg_ℤ (value a s)

-- whether a relation holds between two numbers
abbrev pub relates : Rel → ℤ → ℤ → Bool
relates Eq a b = int_eq a b
relates Ne a b = not (int_eq a b)
relates Lt a b = int_lt a b
relates Le a b = not (int_lt b a)
relates Gt a b = int_lt b a
relates Ge a b = not (int_lt a b)

abbrev pub literal_holds : Literal ℕ → Store → Bool
literal_holds l s = relates l.relation (value l.left s) (value l.right s)

abbrev pub holds : Guard ℕ → Store → Bool
holds (Test l) s = literal_holds l s
holds (Not g) s = not (holds g s)
holds (And a b) s = holds a s && holds b s
holds (Or a b) s = holds a s || holds b s

-- a transition without guard may always be taken
abbrev pub condition_holds : Option (Guard ℕ) → Store → Bool
condition_holds None s = true
condition_holds (Some g) s = holds g s

-- the first transition whose guard holds
abbrev pub transition_taken : List (Transition ℕ ℕ) → Store → Option (Transition ℕ ℕ)
transition_taken [] s = None
transition_taken (l ∷ ls) s = cond (condition_holds l.guard s) (Some l) (transition_taken ls s)

-- what an assignment does to a store, with its index and its right side, or what it emits, valued in the store before the step
abbrev pub act : Assignment ℕ → Store → Store → Store
act (Assign x e) before s = store_with_number s x (value e before)
act (ArrayWrite x i e) before s = store_with_entry s x (value i before) (value e before)
act (Emit x e) before s = store_with_emit s x (value e before)

-- the assignments of a transition, in order, all valued in the store before the step
abbrev pub act_all : List (Assignment ℕ) → Store → Store → Store
act_all [] before s = s
act_all (a ∷ rest) before s = act_all rest before (act a before s)
