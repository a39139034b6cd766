-- The units that an item uses.
use Rattle.std.specs.Prelude.{ℕ, ◌+◌, nat_lt, Bool, not, ◌&&◌, [], ◌∷◌}
use Rattle.fs_model.specs.Expressions.{Expression, Number, Variable, Read, Sum, Difference, Product, Quotient, Remainder}
use Rattle.fs_model.specs.Expressions.{Negative}
use Rattle.fs_model.specs.Expressions.{Assignment, Assign, ArrayWrite, Emit}
use Rattle.hls_block_filling.specs.Items.{Item}
use Rattle.hls_unit_counts.specs.declared.units.Unit.{Unit as Kind}
use Rattle.hls_unit_counts.specs.declared.units.Unit.TheVariants.{Add, Mul, Div, Mem}
pub use Rattle.hls_unit_counts.specs.Counts.{Units, units_in}

abbrev pub one_add : Units
one_add Add = 1
one_add Mul = 0
one_add Div = 0
one_add Mem = 0

abbrev pub one_mul : Units
one_mul Add = 0
one_mul Mul = 1
one_mul Div = 0
one_mul Mem = 0

abbrev pub one_div : Units
one_div Add = 0
one_div Mul = 0
one_div Div = 1
one_div Mem = 0

abbrev pub one_mem : Units
one_mem Add = 0
one_mem Mul = 0
one_mem Div = 0
one_mem Mem = 1

-- one unit of a kind
abbrev pub one_of : Kind → Units
one_of Add = one_add
one_of Mul = one_mul
one_of Div = one_div
one_of Mem = one_mem

abbrev pub none_used : Units
none_used k = 0

abbrev pub used_by_expression : Expression ℕ → Units
used_by_expression (Number n) k = 0
used_by_expression (Variable x) k = 0
used_by_expression (Read x i) k = one_mem k + used_by_expression i k
used_by_expression (Sum a b) k = one_add k + (used_by_expression a k + used_by_expression b k)
used_by_expression (Difference a b) k = one_add k + (used_by_expression a k + used_by_expression b k)
used_by_expression (Product a b) k = one_mul k + (used_by_expression a k + used_by_expression b k)
used_by_expression (Quotient a b) k = one_div k + (used_by_expression a k + used_by_expression b k)
used_by_expression (Remainder a b) k = one_div k + (used_by_expression a k + used_by_expression b k)
used_by_expression (Negative a) k = one_add k + used_by_expression a k

abbrev pub used_by_assignment : Assignment ℕ → Units
used_by_assignment (Assign x e) k = used_by_expression e k
used_by_assignment (Emit x e) k = used_by_expression e k
used_by_assignment (ArrayWrite x i e) k = one_mem k + (used_by_expression i k + used_by_expression e k)

abbrev pub used_by : Item → Units
used_by [] k = 0
used_by (a ∷ rest) k = used_by_assignment a k + used_by rest k

-- whether units suffice for what is used and more
abbrev pub suffice : Units → Units → Units → Bool
suffice units used more =
    not (nat_lt (units Add) (used Add + more Add)) && not (nat_lt (units Mul) (used Mul + more Mul))
    && not (nat_lt (units Div) (used Div + more Div)) && not (nat_lt (units Mem) (used Mem + more Mem))
