-- Expressions, guards, assignments and transitions over other variables and states.
use Rattle.std.specs.Prelude.{map, option_map}
use Rattle.fs_model.specs.Expressions.{Expression, Number, Variable, Read, Sum, Difference, Product, Quotient, Remainder}
use Rattle.fs_model.specs.Expressions.{Negative, Literal}
use Rattle.fs_model.specs.Expressions.{Guard, Test, Not, And, Or, Assignment, Assign, ArrayWrite, Emit, Transition}

-- the same expression, where f tells the variables
abbrev pub expression_over : {X Y : Type 0} → (X → Y) → Expression X → Expression Y
expression_over f (Number n) = Number n
expression_over f (Variable x) = Variable (f x)
expression_over f (Read x i) = Read (f x) (expression_over f i)
expression_over f (Sum a b) = Sum (expression_over f a) (expression_over f b)
expression_over f (Difference a b) = Difference (expression_over f a) (expression_over f b)
expression_over f (Product a b) = Product (expression_over f a) (expression_over f b)
expression_over f (Quotient a b) = Quotient (expression_over f a) (expression_over f b)
expression_over f (Remainder a b) = Remainder (expression_over f a) (expression_over f b)
expression_over f (Negative a) = Negative (expression_over f a)

abbrev pub literal_over : {X Y : Type 0} → (X → Y) → Literal X → Literal Y
literal_over f l = record { relation = l.relation; left = expression_over f l.left; right = expression_over f l.right }

abbrev pub guard_over : {X Y : Type 0} → (X → Y) → Guard X → Guard Y
guard_over f (Test l) = Test (literal_over f l)
guard_over f (Not g) = Not (guard_over f g)
guard_over f (And a b) = And (guard_over f a) (guard_over f b)
guard_over f (Or a b) = Or (guard_over f a) (guard_over f b)

abbrev pub assignment_over : {X Y : Type 0} → (X → Y) → Assignment X → Assignment Y
assignment_over f (Assign x e) = Assign (f x) (expression_over f e)
assignment_over f (ArrayWrite x i e) = ArrayWrite (f x) (expression_over f i) (expression_over f e)
assignment_over f (Emit x e) = Emit (f x) (expression_over f e)

-- the same transition, where f tells the variables and g the states
abbrev pub transition_over : {X Y S T : Type 0} → (X → Y) → (S → T) → Transition X S → Transition Y T
transition_over f g l = record {
  guard = option_map (guard_over f) l.guard;
  target = g l.target;
  assignments = map (assignment_over f) l.assignments;
}

-- an expression of the same operator between other operands
abbrev pub expression_with_operands : {X Y : Type 0} → Expression X → (a b : Expression Y) → Expression Y
expression_with_operands (Difference c d) a b = Difference a b
expression_with_operands (Product c d) a b = Product a b
expression_with_operands (Quotient c d) a b = Quotient a b
expression_with_operands (Remainder c d) a b = Remainder a b
expression_with_operands _ a b = Sum a b

-- a guard of the same connective between other guards
abbrev pub guard_with_parts : {X Y : Type 0} → Guard X → (a b : Guard Y) → Guard Y
guard_with_parts (Or c d) a b = Or a b
guard_with_parts _ a b = And a b
