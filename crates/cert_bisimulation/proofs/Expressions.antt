-- What steps leave in a store is what their expressions are worth over the store at the start.
use Rattle.std.proofs.Common.{◌≡◌, ℕ, ◌==◌, ℤ, ◌+ℤ◌, ◌-ℤ◌, ◌*ℤ◌, neg_ℤ, cond, Bool, true, false, refl, ap, ap₂, ◌∙◌, List, [], ◌∷◌, ◌++◌}
use Rattle.std.specs.Ordering.{int_eq}
use Rattle.fs_model.specs.Division.{quotient, remainder}
use Rattle.fs_model.specs.Expressions.{Expression, Number, Variable, Read, Sum, Difference, Product, Quotient, Remainder, Negative, Assignment, Assign}
use Rattle.fs_model.specs.Expressions.{ArrayWrite, Emit}
use Rattle.fs_model.specs.Machines.{Fsmd}
use Rattle.fs_model.specs.Stores.{Store}
use Rattle.fs_model.specs.Meaning.{value, act, act_all}
use Rattle.fs_cut.specs.Paths.{BranchStep, branch_at, store_after, store_after_steps}
use Rattle.cert_bisimulation.specs.PathExpressions.{ExpressionVector, Stored, Pushed, initial, path_expression, expressions_after, acted_all, left_by}
use Rattle.cert_bisimulation.specs.ExpressionValues.{value_in, array_in, list_in}

-- over the store w at the start, each expression is worth what the store s holds
pub record Shows (w : Store) (e : ExpressionVector) (s : Store) : Type 0 where
  pub scalars : (x : ℕ) → value_in w (e.scalar x) ≡ s.scalar x
  pub arrays : (x : ℕ) (i : ℤ) → array_in w (e.array x) i ≡ s.array x i
  pub ports : (x : ℕ) → list_in w (e.port x) ≡ s.port x

module _ (w : Store) where
  pub expressed_value : (e : ExpressionVector) (s : Store) → Shows w e s → (t : Expression ℕ) → value_in w (path_expression e t) ≡ value t s
  expressed_value e s h (Number n) = refl
  expressed_value e s h (Variable x) = h.scalars x
  expressed_value e s h (Read x i) = h.arrays x (value_in w (path_expression e i)) ∙ ap (s.array x) (expressed_value e s h i)
  expressed_value e s h (Sum a b) = ap₂ (λ x y. x +ℤ y) (expressed_value e s h a) (expressed_value e s h b)
  expressed_value e s h (Difference a b) = ap₂ (λ x y. x -ℤ y) (expressed_value e s h a) (expressed_value e s h b)
  expressed_value e s h (Product a b) = ap₂ (λ x y. x *ℤ y) (expressed_value e s h a) (expressed_value e s h b)
  expressed_value e s h (Quotient a b) = ap₂ quotient (expressed_value e s h a) (expressed_value e s h b)
  expressed_value e s h (Remainder a b) = ap₂ remainder (expressed_value e s h a) (expressed_value e s h b)
  expressed_value e s h (Negative a) = ap neg_ℤ (expressed_value e s h a)

  act_shows : (before : ExpressionVector) (s : Store) → Shows w before s → (a : Assignment ℕ) (e : ExpressionVector) (t : Store) → Shows w e t
      → Shows w (expressions_after a before e) (act a s t)
  act_shows before s b (Assign x v) e t h = record { scalars = λ y. chosen y (y == x); arrays = h.arrays; ports = h.ports }
    where
      chosen : (y : ℕ) (c : Bool) → value_in w (cond c (path_expression before v) (e.scalar y)) ≡ cond c (value v s) (t.scalar y)
      chosen y true = expressed_value before s b v
      chosen y false = h.scalars y
  act_shows before s b (ArrayWrite x i v) e t h = record { scalars = h.scalars; arrays = λ y j. chosen y j (y == x); ports = h.ports }
    where
      chosen : (y : ℕ) (j : ℤ) (c : Bool) → array_in w (cond c (Stored (e.array y) (path_expression before i) (path_expression before v)) (e.array y)) j
          ≡ cond c (cond (int_eq (value i s) j) (value v s) (t.array y j)) (t.array y j)
      chosen y j true = λ k. cond (int_eq (expressed_value before s b i k) j) (expressed_value before s b v k) (h.arrays y j k)
      chosen y j false = h.arrays y j
  act_shows before s b (Emit x v) e t h = record { scalars = h.scalars; arrays = h.arrays; ports = λ y. chosen y (y == x) }
    where
      chosen : (y : ℕ) (c : Bool) → list_in w (cond c (Pushed (e.port y) (path_expression before v)) (e.port y))
          ≡ cond c (t.port y ++ value v s ∷ []) (t.port y)
      chosen y true = ap₂ (λ l n. l ++ n ∷ []) (h.ports y) (expressed_value before s b v)
      chosen y false = h.ports y

  acts_show : (before : ExpressionVector) (s : Store) → Shows w before s → (xs : List (Assignment ℕ)) (e : ExpressionVector) (t : Store) → Shows w e t
      → Shows w (acted_all xs before e) (act_all xs s t)
  acts_show before s b [] e t h = h
  acts_show before s b (x ∷ xs) e t h = acts_show before s b xs (expressions_after x before e) (act x s t) (act_shows before s b x e t h)

  steps_show : (m : Fsmd) (xs : List BranchStep) (e : ExpressionVector) (s : Store) → Shows w e s → Shows w (left_by m xs e) (store_after_steps m xs s)
  steps_show m [] e s h = h
  steps_show m (x ∷ xs) e s h =
      steps_show m xs (acted_all (branch_at m x.state x.branch).assignments e e) (store_after m x s)
      (acts_show e s h (branch_at m x.state x.branch).assignments e s h)

  pub at_start : Shows w initial w
  at_start = record { scalars = λ x. refl; arrays = λ x i. refl; ports = λ x. refl }

  pub left_shows : (m : Fsmd) (xs : List BranchStep) → Shows w (left_by m xs initial) (store_after_steps m xs w)
  left_shows m xs = steps_show m xs initial w at_start
