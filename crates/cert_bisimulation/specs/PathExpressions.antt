-- What a path leaves, as expressions over what stood at its start: nothing is folded or reordered.
use Rattle.std.specs.Prelude.{ℕ, ◌==◌, cond, ℤ, List, [], ◌∷◌}
use Rattle.fs_model.specs.Expressions.{Expression, Number, Variable, Read, Sum, Difference, Product, Quotient, Remainder}
use Rattle.fs_model.specs.Expressions.{Negative}
use Rattle.fs_model.specs.Expressions.{Assignment, Assign, ArrayWrite, Emit}
use Rattle.fs_model.specs.Machines.{Fsmd}
use Rattle.fs_cut.specs.Paths.{BranchStep, branch_at}

mutual
  -- a constant, what a scalar held at the start, an element of an array, or an operation
  pub data PathExpression : Type 0 where
    Constant : ℤ → PathExpression
    Initial : ℕ → PathExpression
    Element : ArrayExpression → (index : PathExpression) → PathExpression
    Plus : (a b : PathExpression) → PathExpression
    Minus : (a b : PathExpression) → PathExpression
    Times : (a b : PathExpression) → PathExpression
    Over : (a b : PathExpression) → PathExpression
    Rest : (a b : PathExpression) → PathExpression
    Opposite : PathExpression → PathExpression

  -- what an array held at the start, or an array with one more write
  pub data ArrayExpression : Type 0 where
    InitialArray : ℕ → ArrayExpression
    Stored : ArrayExpression → (index value : PathExpression) → ArrayExpression

-- what was emitted to a port up to the start, or a list with one more item
pub data ListExpression : Type 0 where
  InitialList : ℕ → ListExpression
  Pushed : ListExpression → (value : PathExpression) → ListExpression

-- an expression for each variable
pub record ExpressionVector : Type 0 where
  pub scalar : ℕ → PathExpression
  pub array : ℕ → ArrayExpression
  pub port : ℕ → ListExpression

abbrev pub initial : ExpressionVector
initial = record { scalar = Initial; array = InitialArray; port = InitialList }

-- a term with its expression for each variable
abbrev pub path_expression : ExpressionVector → Expression ℕ → PathExpression
path_expression s (Number n) = Constant n
path_expression s (Variable x) = s.scalar x
path_expression s (Read x i) = Element (s.array x) (path_expression s i)
path_expression s (Sum a b) = Plus (path_expression s a) (path_expression s b)
path_expression s (Difference a b) = Minus (path_expression s a) (path_expression s b)
path_expression s (Product a b) = Times (path_expression s a) (path_expression s b)
path_expression s (Quotient a b) = Over (path_expression s a) (path_expression s b)
path_expression s (Remainder a b) = Rest (path_expression s a) (path_expression s b)
path_expression s (Negative a) = Opposite (path_expression s a)

-- what an assignment leaves, with its terms over what stood before the step
abbrev pub expressions_after : Assignment ℕ → (before : ExpressionVector) → ExpressionVector → ExpressionVector
expressions_after (Assign x e) before s = record {
  scalar = λ y. cond (y == x) (path_expression before e) (s.scalar y);
  array = s.array;
  port = s.port;
}
expressions_after (ArrayWrite x i e) before s =
    record {
      scalar = s.scalar;
      array = λ y. cond (y == x) (Stored (s.array y) (path_expression before i) (path_expression before e)) (s.array y);
      port = s.port;
    }
expressions_after (Emit x e) before s = record {
  scalar = s.scalar;
  array = s.array;
  port = λ y. cond (y == x) (Pushed (s.port y) (path_expression before e)) (s.port y);
}

abbrev pub acted_all : List (Assignment ℕ) → (before : ExpressionVector) → ExpressionVector → ExpressionVector
acted_all [] before s = s
acted_all (a ∷ rest) before s = acted_all rest before (expressions_after a before s)

-- what steps leave
abbrev pub left_by : Fsmd → List BranchStep → ExpressionVector → ExpressionVector
left_by m [] s = s
left_by m (x ∷ xs) s = left_by m xs (acted_all (branch_at m x.state x.branch).assignments s s)
