-- Texts without one of the brackets that they need.
use Rattle.std.specs.Prelude.{◌≡◌, ◌≢◌, ℕ, true, ◌||◌, List, ◌++◌, codes}
use Rattle.fs_model.specs.declared.parts.Rel.{Rel}
use Rattle.fs_model.specs.Expressions.{Expression, Sum, Difference, Product, Quotient, Remainder, Negative, Read, Guard, Test}
use Rattle.fs_model.specs.Expressions.{Not, And, Or}
use Rattle.fs_model.specs.WellFormed.{is_sum, is_product, is_and, is_or}
use Rattle.fs_write.specs.Canonical.{in_parens, in_braces, infix_expression_text, relation_text, guard_text}

-- the text of an expression without the parentheses round one operand in it, where they are needed
pub data BareExpression : Expression (List ℕ) → List ℕ → Type 0 where
  sum_right : (a b : Expression (List ℕ)) → is_sum b ≡ true
      → BareExpression (Sum a b) (infix_expression_text a ++ (codes " + " ++ infix_expression_text b))
  difference_right : (a b : Expression (List ℕ)) → is_sum b ≡ true
      → BareExpression (Difference a b) (infix_expression_text a ++ (codes " - " ++ infix_expression_text b))
  product_left : (a b : Expression (List ℕ)) → is_sum a ≡ true
      → BareExpression (Product a b) (infix_expression_text a
      ++ (codes " * " ++ in_parens (is_sum b || is_product b) (infix_expression_text b)))
  product_right : (a b : Expression (List ℕ)) → (is_sum b || is_product b) ≡ true
      → BareExpression (Product a b) (in_parens (is_sum a) (infix_expression_text a) ++ (codes " * " ++ infix_expression_text b))
  quotient_left : (a b : Expression (List ℕ)) → is_sum a ≡ true
      → BareExpression (Quotient a b)
      (infix_expression_text a ++ (codes " / " ++ in_parens (is_sum b || is_product b) (infix_expression_text b)))
  quotient_right : (a b : Expression (List ℕ)) → (is_sum b || is_product b) ≡ true
      → BareExpression (Quotient a b) (in_parens (is_sum a) (infix_expression_text a) ++ (codes " / " ++ infix_expression_text b))
  remainder_left : (a b : Expression (List ℕ)) → is_sum a ≡ true
      → BareExpression (Remainder a b)
      (infix_expression_text a ++ (codes " % " ++ in_parens (is_sum b || is_product b) (infix_expression_text b)))
  remainder_right : (a b : Expression (List ℕ)) → (is_sum b || is_product b) ≡ true
      → BareExpression (Remainder a b) (in_parens (is_sum a) (infix_expression_text a) ++ (codes " % " ++ infix_expression_text b))
  under_minus : (a : Expression (List ℕ)) → (is_sum a || is_product a) ≡ true
      → BareExpression (Negative a) (codes "-" ++ infix_expression_text a)
  in_index : (x : List ℕ) (a : Expression (List ℕ)) (w : List ℕ) → BareExpression a w
      → BareExpression (Read x a) (x ++ (codes "[" ++ (w ++ codes "]")))
  in_sum_left : (a b : Expression (List ℕ)) (w : List ℕ) → BareExpression a w
      → BareExpression (Sum a b) (w ++ (codes " + " ++ in_parens (is_sum b) (infix_expression_text b)))
  in_sum_right : (a b : Expression (List ℕ)) (w : List ℕ) → BareExpression b w
      → BareExpression (Sum a b) (infix_expression_text a ++ (codes " + " ++ in_parens (is_sum b) w))
  in_difference_left : (a b : Expression (List ℕ)) (w : List ℕ) → BareExpression a w
      → BareExpression (Difference a b) (w ++ (codes " - " ++ in_parens (is_sum b) (infix_expression_text b)))
  in_difference_right : (a b : Expression (List ℕ)) (w : List ℕ) → BareExpression b w
      → BareExpression (Difference a b) (infix_expression_text a ++ (codes " - " ++ in_parens (is_sum b) w))
  in_product_left : (a b : Expression (List ℕ)) (w : List ℕ) → BareExpression a w
      → BareExpression (Product a b)
      (in_parens (is_sum a) w ++ (codes " * " ++ in_parens (is_sum b || is_product b) (infix_expression_text b)))
  in_product_right : (a b : Expression (List ℕ)) (w : List ℕ) → BareExpression b w
      → BareExpression (Product a b)
      (in_parens (is_sum a) (infix_expression_text a) ++ (codes " * " ++ in_parens (is_sum b || is_product b) w))
  in_quotient_left : (a b : Expression (List ℕ)) (w : List ℕ) → BareExpression a w
      → BareExpression (Quotient a b)
      (in_parens (is_sum a) w ++ (codes " / " ++ in_parens (is_sum b || is_product b) (infix_expression_text b)))
  in_quotient_right : (a b : Expression (List ℕ)) (w : List ℕ) → BareExpression b w
      → BareExpression (Quotient a b)
      (in_parens (is_sum a) (infix_expression_text a) ++ (codes " / " ++ in_parens (is_sum b || is_product b) w))
  in_remainder_left : (a b : Expression (List ℕ)) (w : List ℕ) → BareExpression a w
      → BareExpression (Remainder a b)
      (in_parens (is_sum a) w ++ (codes " % " ++ in_parens (is_sum b || is_product b) (infix_expression_text b)))
  in_remainder_right : (a b : Expression (List ℕ)) (w : List ℕ) → BareExpression b w
      → BareExpression (Remainder a b)
      (in_parens (is_sum a) (infix_expression_text a) ++ (codes " % " ++ in_parens (is_sum b || is_product b) w))
  in_negative : (a : Expression (List ℕ)) (w : List ℕ) → BareExpression a w
      → BareExpression (Negative a) (codes "-" ++ in_parens (is_sum a || is_product a) w)

-- the text of a guard without the parentheses or braces round one operand in it, where they are needed
pub data BareGuard : Guard (List ℕ) → List ℕ → Type 0 where
  under_not : (a : Guard (List ℕ)) → (is_and a || is_or a) ≡ true → BareGuard (Not a) (codes "!" ++ guard_text a)
  and_left : (a b : Guard (List ℕ)) → is_or a ≡ true
      → BareGuard (And a b) (guard_text a ++ (codes " && " ++ in_braces (is_and b || is_or b) (guard_text b)))
  and_right : (a b : Guard (List ℕ)) → (is_and b || is_or b) ≡ true
      → BareGuard (And a b) (in_braces (is_or a) (guard_text a) ++ (codes " && " ++ guard_text b))
  or_right : (a b : Guard (List ℕ)) → is_or b ≡ true → BareGuard (Or a b) (guard_text a ++ (codes " || " ++ guard_text b))
  in_test_left : (r : Rel) (a b : Expression (List ℕ)) (w : List ℕ) → BareExpression a w
      → BareGuard (Test (record { relation = r; left = a; right = b })) (w ++ (relation_text r ++ infix_expression_text b))
  in_test_right : (r : Rel) (a b : Expression (List ℕ)) (w : List ℕ) → BareExpression b w
      → BareGuard (Test (record { relation = r; left = a; right = b })) (infix_expression_text a ++ (relation_text r ++ w))
  in_not : (a : Guard (List ℕ)) (w : List ℕ) → BareGuard a w → BareGuard (Not a) (codes "!" ++ in_braces (is_and a || is_or a) w)
  in_and_left : (a b : Guard (List ℕ)) (w : List ℕ) → BareGuard a w
      → BareGuard (And a b) (in_braces (is_or a) w ++ (codes " && " ++ in_braces (is_and b || is_or b) (guard_text b)))
  in_and_right : (a b : Guard (List ℕ)) (w : List ℕ) → BareGuard b w
      → BareGuard (And a b) (in_braces (is_or a) (guard_text a) ++ (codes " && " ++ in_braces (is_and b || is_or b) w))
  in_or_left : (a b : Guard (List ℕ)) (w : List ℕ) → BareGuard a w
      → BareGuard (Or a b) (w ++ (codes " || " ++ in_braces (is_or b) (guard_text b)))
  in_or_right : (a b : Guard (List ℕ)) (w : List ℕ) → BareGuard b w
      → BareGuard (Or a b) (guard_text a ++ (codes " || " ++ in_braces (is_or b) w))

-- the text of another expression
abbrev pub IsTextOfAnother : Expression (List ℕ) → List ℕ → Type 0
IsTextOfAnother t text = (u : Expression (List ℕ)) × (infix_expression_text u ≡ text) × (u ≢ t)

-- the text of another guard
abbrev pub IsTextOfAnotherGuard : Guard (List ℕ) → List ℕ → Type 0
IsTextOfAnotherGuard g text = (h : Guard (List ℕ)) × (guard_text h ≡ text) × (h ≢ g)
