-- Parts that a text can spell: no number is negative, no declaration is empty, each port is an output, and no expression is too
-- long.
use Rattle.std.specs.Prelude.{ℕ, ◌+◌, nat_le, ◌==◌, Bool, true, false, not, ◌&&◌, ◌||◌, cond, pos, int_lt, length, Option, Some}
use Rattle.std.specs.Prelude.{None}
use Rattle.std.specs.List.{list_all}
use Rattle.fs_model.specs.Runs.{is_output, is_port}
use Rattle.fs_model.specs.Limits.{most_operators}
use Rattle.fs_model.specs.Expressions.{Expression, Number, Variable, Read, Sum, Difference, Product, Quotient, Remainder}
use Rattle.fs_model.specs.Expressions.{Negative, Guard}
use Rattle.fs_model.specs.Expressions.{Test, Not, And, Or, Assignment, Assign, ArrayWrite, Emit}
use Rattle.fs_model.specs.Source.{Declaration, SourceTransition, SourceState, Source}

-- made by + or - between two operands
abbrev pub is_sum : {X : Type 0} → Expression X → Bool
is_sum (Sum a b) = true
is_sum (Difference a b) = true
is_sum _ = false

-- made by *, / or %
abbrev pub is_product : {X : Type 0} → Expression X → Bool
is_product (Product a b) = true
is_product (Quotient a b) = true
is_product (Remainder a b) = true
is_product _ = false

-- made by && between two guards
abbrev pub is_and : {X : Type 0} → Guard X → Bool
is_and (And a b) = true
is_and _ = false

-- made by || between two guards
abbrev pub is_or : {X : Type 0} → Guard X → Bool
is_or (Or a b) = true
is_or _ = false

-- one opening bracket where it is needed
abbrev pub bracket : Bool → ℕ
bracket needed = cond needed 1 0

-- the operators and opening brackets of the shortest text of an expression
abbrev pub operators_of_expression : {X : Type 0} → Expression X → ℕ
operators_of_expression (Number n) = 0
operators_of_expression (Variable x) = 0
operators_of_expression (Read x i) = 1 + operators_of_expression i
operators_of_expression (Sum a b) = 1 + (operators_of_expression a + (bracket (is_sum b) + operators_of_expression b))
operators_of_expression (Difference a b) = 1 + (operators_of_expression a + (bracket (is_sum b) + operators_of_expression b))
operators_of_expression (Product a b) =
    1 + ((bracket (is_sum a) + operators_of_expression a) + (bracket (is_sum b || is_product b) + operators_of_expression b))
operators_of_expression (Quotient a b) =
    1 + ((bracket (is_sum a) + operators_of_expression a) + (bracket (is_sum b || is_product b) + operators_of_expression b))
operators_of_expression (Remainder a b) =
    1 + ((bracket (is_sum a) + operators_of_expression a) + (bracket (is_sum b || is_product b) + operators_of_expression b))
operators_of_expression (Negative a) = 1 + (bracket (is_sum a || is_product a) + operators_of_expression a)

-- the same of a guard, with braces for brackets
abbrev pub operators_of_guard : {X : Type 0} → Guard X → ℕ
operators_of_guard (Test l) = 1 + (operators_of_expression l.left + operators_of_expression l.right)
operators_of_guard (Not g) = 1 + (bracket (is_and g || is_or g) + operators_of_guard g)
operators_of_guard (And a b) =
    1 + ((bracket (is_or a) + operators_of_guard a) + (bracket (is_and b || is_or b) + operators_of_guard b))
operators_of_guard (Or a b) = 1 + (operators_of_guard a + (bracket (is_or b) + operators_of_guard b))

-- the same of an assignment
abbrev pub operators_of_assignment : {X : Type 0} → Assignment X → ℕ
operators_of_assignment (Assign x e) = operators_of_expression e
operators_of_assignment (ArrayWrite x i e) = 1 + (operators_of_expression i + operators_of_expression e)
operators_of_assignment (Emit x e) = operators_of_expression e

-- no number of an expression is negative
abbrev pub is_natural_expression : {X : Type 0} → Expression X → Bool
is_natural_expression (Number n) = not (int_lt n (pos 0))
is_natural_expression (Variable x) = true
is_natural_expression (Read x i) = is_natural_expression i
is_natural_expression (Sum a b) = is_natural_expression a && is_natural_expression b
is_natural_expression (Difference a b) = is_natural_expression a && is_natural_expression b
is_natural_expression (Product a b) = is_natural_expression a && is_natural_expression b
is_natural_expression (Quotient a b) = is_natural_expression a && is_natural_expression b
is_natural_expression (Remainder a b) = is_natural_expression a && is_natural_expression b
is_natural_expression (Negative a) = is_natural_expression a

-- no number of a guard is negative
abbrev pub is_natural_guard : {X : Type 0} → Guard X → Bool
is_natural_guard (Test l) = is_natural_expression l.left && is_natural_expression l.right
is_natural_guard (Not g) = is_natural_guard g
is_natural_guard (And a b) = is_natural_guard a && is_natural_guard b
is_natural_guard (Or a b) = is_natural_guard a && is_natural_guard b

-- no number of an assignment is negative
abbrev pub is_natural_assignment : {X : Type 0} → Assignment X → Bool
is_natural_assignment (Assign x e) = is_natural_expression e
is_natural_assignment (ArrayWrite x i e) = is_natural_expression i && is_natural_expression e
is_natural_assignment (Emit x e) = is_natural_expression e

-- no number is negative, and there are few enough operators and opening brackets
abbrev pub is_well_formed_condition : {X : Type 0} → Option (Guard X) → Bool
is_well_formed_condition None = true
is_well_formed_condition (Some g) = is_natural_guard g && nat_le (operators_of_guard g) most_operators

-- the same of an assignment
abbrev pub is_well_formed_assignment : {X : Type 0} → Assignment X → Bool
is_well_formed_assignment a = is_natural_assignment a && nat_le (operators_of_assignment a) most_operators

-- the guard and each assignment are well formed
abbrev pub is_well_formed_transition : SourceTransition → Bool
is_well_formed_transition l = is_well_formed_condition l.content.guard && list_all is_well_formed_assignment l.content.assignments

-- each transition is well formed
abbrev pub is_well_formed_state : SourceState → Bool
is_well_formed_state s = list_all is_well_formed_transition s.transitions

-- a declaration names a variable, and ports are outputs
abbrev pub is_well_formed_declaration : Declaration → Bool
is_well_formed_declaration d = not (length d.names == 0) && (not (is_port d.sort) || is_output d.role)

-- each declaration and each state is well formed
abbrev pub is_well_formed : Source → Bool
is_well_formed p = list_all is_well_formed_declaration p.declarations && list_all is_well_formed_state p.states
