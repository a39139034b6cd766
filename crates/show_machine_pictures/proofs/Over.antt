-- Expressions over other variables are of the same kinds.
use Rattle.std.proofs.Common.{◌≡◌, refl}
use Rattle.fs_model.specs.Expressions.{Expression, Number, Variable, Read, Sum, Difference, Product, Quotient, Remainder, Negative}
use Rattle.fs_model.specs.Renamed.{expression_over}
use Rattle.fs_model.specs.WellFormed.{is_sum, is_product}

pub sum_over : {X Y : Type 0} (f : X → Y) (t : Expression X) → is_sum (expression_over f t) ≡ is_sum t
sum_over f (Number n) = refl
sum_over f (Variable x) = refl
sum_over f (Read x i) = refl
sum_over f (Sum a b) = refl
sum_over f (Difference a b) = refl
sum_over f (Product a b) = refl
sum_over f (Quotient a b) = refl
sum_over f (Remainder a b) = refl
sum_over f (Negative a) = refl

pub product_over : {X Y : Type 0} (f : X → Y) (t : Expression X) → is_product (expression_over f t) ≡ is_product t
product_over f (Number n) = refl
product_over f (Variable x) = refl
product_over f (Read x i) = refl
product_over f (Sum a b) = refl
product_over f (Difference a b) = refl
product_over f (Product a b) = refl
product_over f (Quotient a b) = refl
product_over f (Remainder a b) = refl
product_over f (Negative a) = refl
