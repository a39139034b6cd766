-- Operators between two factors or two products.
use Rattle.std.specs.Prelude.{ℕ, Bool, true, false, Option, Some, None, List}
use Rattle.fs_model.specs.Expressions.{Expression, Sum, Difference, Product, Quotient, Remainder}
use Rattle.fs_grammar.specs.declared.token.TokenKind.{TokenKind}
use Rattle.fs_grammar.specs.declared.token.TokenKind.TheVariants.{Plus, Minus, Star, Slash, Percent, AndAnd, OrOr}
use Rattle.fs_grammar.specs.declared.token.Token.{Token}
use Rattle.fs_grammar.specs.Tokens.{kind_at}
use Rattle.fs_expression_text.specs.declared.operators.ProductOperator.{ProductOperator}
use Rattle.fs_expression_text.specs.declared.operators.ProductOperator.TheVariants as products
use Rattle.fs_expression_text.specs.declared.operators.SumOperator.{SumOperator}
use Rattle.fs_expression_text.specs.declared.operators.SumOperator.TheVariants as sums

-- the operator with which a product goes on, if a token is one
abbrev pub product_operator : TokenKind → Option ProductOperator
product_operator Star = Some products.Times
product_operator Slash = Some products.Divide
product_operator Percent = Some products.Remainder
product_operator _ = None

-- the operator with which a sum goes on, if a token is one
abbrev pub sum_operator : TokenKind → Option SumOperator
sum_operator Plus = Some sums.Plus
sum_operator Minus = Some sums.Minus
sum_operator _ = None

abbrev pub product_operator_in : Option TokenKind → Option ProductOperator
product_operator_in (Some t) = product_operator t
product_operator_in None = None

abbrev pub sum_operator_in : Option TokenKind → Option SumOperator
sum_operator_in (Some t) = sum_operator t
sum_operator_in None = None

-- the operator with which a product goes on before these tokens
abbrev pub product_operator_at : List Token → Option ProductOperator
product_operator_at ts = product_operator_in (kind_at ts)

-- the operator with which a sum goes on before these tokens
abbrev pub sum_operator_at : List Token → Option SumOperator
sum_operator_at ts = sum_operator_in (kind_at ts)

-- a token with which a conjunction goes on
abbrev pub joins_units : Option TokenKind → Bool
joins_units (Some AndAnd) = true
joins_units _ = false

-- a token with which a guard goes on
abbrev pub joins_alternatives : Option TokenKind → Bool
joins_alternatives (Some OrOr) = true
joins_alternatives _ = false

-- a product of two expressions by an operator
abbrev pub product_expression : ProductOperator → Expression (List ℕ) → Expression (List ℕ) → Expression (List ℕ)
product_expression products.Times a b = Product a b
product_expression products.Divide a b = Quotient a b
product_expression products.Remainder a b = Remainder a b

-- a sum of two expressions by an operator
abbrev pub sum_expression : SumOperator → Expression (List ℕ) → Expression (List ℕ) → Expression (List ℕ)
sum_expression sums.Plus a b = Sum a b
sum_expression sums.Minus a b = Difference a b
