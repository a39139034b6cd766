-- What the operators of expressions make of two values.
use Rattle.std.specs.Prelude.{ℕ, ℤ, pos, ◌+ℤ◌, ◌-ℤ◌, ◌*ℤ◌}
use Rattle.base_laws.specs.Division.{quotient, remainder}
use Rattle.fs_model.specs.Expressions.{Expression, Number, Variable, Read, Sum, Difference, Product, Quotient, Remainder}
use Rattle.fs_model.specs.Expressions.{Negative}

-- what the operator of an expression makes of the values of its operands, and 0 where it has not two
abbrev pub operation_value : Expression ℕ → (left right : ℤ) → ℤ
operation_value (Number n) x y = pos 0
operation_value (Variable v) x y = pos 0
operation_value (Read v i) x y = pos 0
operation_value (Sum a b) x y = x +ℤ y
operation_value (Difference a b) x y = x -ℤ y
operation_value (Product a b) x y = x *ℤ y
operation_value (Quotient a b) x y = quotient x y
operation_value (Remainder a b) x y = remainder x y
operation_value (Negative a) x y = pos 0
