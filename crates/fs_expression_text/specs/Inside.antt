-- Reading a sum or a guard by itself, token by token. A state is what has been read and what is still owed.
use Rattle.std.specs.Prelude.{ℕ, List, [], ◌∷◌, cond, Option, Some, None, Result, Ok, Err}
use Rattle.fs_model.specs.declared.parts.Rel.{Rel}
use Rattle.fs_model.specs.Expressions.{Expression, Variable, Read, Negative, Guard, Test, Not, And, Or}
use Rattle.fs_model.specs.Expressions as expressions
use Rattle.fs_grammar.specs.declared.fault.TextKind.TheVariants.{Operators}
use Rattle.fs_grammar.specs.declared.fault.TextFault.{TextFault}
use Rattle.fs_grammar.specs.declared.token.TokenKind.{TokenKind}
use Rattle.fs_grammar.specs.declared.token.TokenKind.TheVariants.{Name, Number, OpenParen, CloseParen, OpenBracket, CloseBracket}
use Rattle.fs_grammar.specs.declared.token.TokenKind.TheVariants.{OpenBrace, CloseBrace, Minus, Bang, AndAnd, OrOr, Relation}
use Rattle.fs_grammar.specs.declared.token.Token.{Token}
use Rattle.fs_grammar.specs.Tokens.{refusal, fault_at}
use Rattle.fs_expression_text.specs.declared.operators.ProductOperator.{ProductOperator}
use Rattle.fs_expression_text.specs.declared.operators.SumOperator.{SumOperator}
use Rattle.fs_expression_text.specs.ExpressionOperators.{product_operator, sum_operator, product_expression, sum_expression}

-- what a unit, a conjunction and a guard are read for
mutual
  pub data UnitContext : Type 0 where
    negates : UnitContext → UnitContext
    first_of_all : ConjunctionContext → UnitContext
    and_after : Guard (List ℕ) → ConjunctionContext → UnitContext

  pub data ConjunctionContext : Type 0 where
    first_of_any : GuardContext → ConjunctionContext
    or_after : Guard (List ℕ) → GuardContext → ConjunctionContext

  pub data GuardContext : Type 0 where
    braces : UnitContext → GuardContext
    guard_alone : GuardContext

-- what a factor, a product and a sum are read for
mutual
  pub data FactorContext : Type 0 where
    first_factor : ProductContext → FactorContext
    next_factor : ProductOperator → Expression (List ℕ) → ProductContext → FactorContext
    negative : FactorContext → FactorContext

  pub data ProductContext : Type 0 where
    first_product : SumContext → ProductContext
    next_product : SumOperator → Expression (List ℕ) → SumContext → ProductContext

  pub data SumContext : Type 0 where
    parens : FactorContext → SumContext
    index : List ℕ → FactorContext → SumContext
    left : UnitContext → SumContext
    right : Rel → Expression (List ℕ) → UnitContext → SumContext
    sum_alone : SumContext

-- a place between two tokens
pub data Inside : Type 0 where
  at_unit : UnitContext → Inside
  after_conjunction : Guard (List ℕ) → ConjunctionContext → Inside
  after_guard : Guard (List ℕ) → GuardContext → Inside
  at_factor : FactorContext → Inside
  after_name : List ℕ → FactorContext → Inside
  after_product : Expression (List ℕ) → ProductContext → Inside
  after_sum : Expression (List ℕ) → SumContext → Inside

-- where a sum begins
abbrev pub at_sum : SumContext → Inside
at_sum k = at_factor (first_factor (first_product k))

-- where a guard begins
abbrev pub at_guard : GuardContext → Inside
at_guard k = at_unit (first_of_all (first_of_any k))

-- a factor has been read
abbrev pub factor_done : Expression (List ℕ) → FactorContext → Inside
factor_done f (first_factor k) = after_product f k
factor_done f (next_factor o p k) = after_product (product_expression o p f) k
factor_done f (negative k) = factor_done (Negative f) k

-- a product has been read, and does not go on
abbrev pub product_done : Expression (List ℕ) → ProductContext → Inside
product_done p (first_product k) = after_sum p k
product_done p (next_product o s k) = after_sum (sum_expression o s p) k

-- a unit has been read
abbrev pub unit_done : Guard (List ℕ) → UnitContext → Inside
unit_done u (negates k) = unit_done (Not u) k
unit_done u (first_of_all k) = after_conjunction u k
unit_done u (and_after c k) = after_conjunction (And c u) k

-- a conjunction has been read, and does not go on
abbrev pub conjunction_done : Guard (List ℕ) → ConjunctionContext → Inside
conjunction_done c (first_of_any k) = after_guard c k
conjunction_done c (or_after g k) = after_guard (Or g c) k

-- a literal has been read
abbrev pub literal_done : Rel → Expression (List ℕ) → Expression (List ℕ) → UnitContext → Inside
literal_done r a b k = unit_done (Test (record { relation = r; left = a; right = b })) k

-- ---- which token can follow, and what it leads to

abbrev pub step_factor : TokenKind → FactorContext → Option Inside
step_factor (Number n) k = Some (factor_done (expressions.Number n) k)
step_factor (Name x) k = Some (after_name x k)
step_factor Minus k = Some (at_factor (negative k))
step_factor OpenParen k = Some (at_sum (parens k))
step_factor _ k = None

abbrev pub step_unit : TokenKind → UnitContext → Option Inside
step_unit Bang k = Some (at_unit (negates k))
step_unit OpenBrace k = Some (at_guard (braces k))
step_unit t k = step_factor t (first_factor (first_product (left k)))

abbrev pub step_guard : TokenKind → Guard (List ℕ) → GuardContext → Option Inside
step_guard OrOr g k = Some (at_unit (first_of_all (or_after g k)))
step_guard CloseBrace g (braces k) = Some (unit_done g k)
step_guard _ g k = None

-- after a guard that may go on
abbrev pub step_guarded : TokenKind → Inside → Option Inside
step_guarded t (after_guard g k) = step_guard t g k
step_guarded t _ = None

abbrev pub step_conjunction : TokenKind → Guard (List ℕ) → ConjunctionContext → Option Inside
step_conjunction AndAnd c k = Some (at_unit (and_after c k))
step_conjunction t c k = step_guarded t (conjunction_done c k)

-- after a conjunction that may go on
abbrev pub step_joined : TokenKind → Inside → Option Inside
step_joined t (after_conjunction c k) = step_conjunction t c k
step_joined t _ = None

-- after a sum that does not go on
abbrev pub step_closed : TokenKind → Expression (List ℕ) → SumContext → Option Inside
step_closed CloseParen s (parens k) = Some (factor_done s k)
step_closed CloseBracket s (index x k) = Some (factor_done (Read x s) k)
step_closed (Relation r) s (left k) = Some (at_sum (right r s k))
step_closed t s (right r l k) = step_joined t (literal_done r l s k)
step_closed _ s k = None

abbrev pub step_sum_on : Option SumOperator → TokenKind → Expression (List ℕ) → SumContext → Option Inside
step_sum_on (Some o) t s k = Some (at_factor (first_factor (next_product o s k)))
step_sum_on None t s k = step_closed t s k

abbrev pub step_sum : TokenKind → Expression (List ℕ) → SumContext → Option Inside
step_sum t s k = step_sum_on (sum_operator t) t s k

-- after a sum that may go on
abbrev pub step_summed : TokenKind → Inside → Option Inside
step_summed t (after_sum s k) = step_sum t s k
step_summed t _ = None

abbrev pub step_product_on : Option ProductOperator → TokenKind → Expression (List ℕ) → ProductContext → Option Inside
step_product_on (Some o) t p k = Some (at_factor (next_factor o p k))
step_product_on None t p k = step_summed t (product_done p k)

abbrev pub step_product : TokenKind → Expression (List ℕ) → ProductContext → Option Inside
step_product t p k = step_product_on (product_operator t) t p k

-- after a product that may go on
abbrev pub step_multiplied : TokenKind → Inside → Option Inside
step_multiplied t (after_product p k) = step_product t p k
step_multiplied t _ = None

abbrev pub step_name : TokenKind → List ℕ → FactorContext → Option Inside
step_name OpenBracket x k = Some (at_sum (index x k))
step_name t x k = step_multiplied t (factor_done (Variable x) k)

-- what a token leads to inside, or none where it cannot follow there
abbrev pub expression_step : Inside → TokenKind → Option Inside
expression_step (at_unit k) t = step_unit t k
expression_step (after_conjunction c k) t = step_conjunction t c k
expression_step (after_guard g k) t = step_guard t g k
expression_step (at_factor k) t = step_factor t k
expression_step (after_name x k) t = step_name t x k
expression_step (after_product p k) t = step_product t p k
expression_step (after_sum s k) t = step_sum t s k

-- ---- what may end here

-- a whole sum, or a whole guard
pub data Whole : Type 0 where
  whole_sum : Expression (List ℕ) → Whole
  whole_guard : Guard (List ℕ) → Whole

abbrev pub ends_guard : Guard (List ℕ) → GuardContext → Option Whole
ends_guard g guard_alone = Some (whole_guard g)
ends_guard g (braces k) = None

abbrev pub ends_guarded : Inside → Option Whole
ends_guarded (after_guard g k) = ends_guard g k
ends_guarded _ = None

abbrev pub ends_conjunction : Guard (List ℕ) → ConjunctionContext → Option Whole
ends_conjunction c k = ends_guarded (conjunction_done c k)

abbrev pub ends_joined : Inside → Option Whole
ends_joined (after_conjunction c k) = ends_conjunction c k
ends_joined _ = None

abbrev pub ends_sum : Expression (List ℕ) → SumContext → Option Whole
ends_sum s sum_alone = Some (whole_sum s)
ends_sum s (right r l k) = ends_joined (literal_done r l s k)
ends_sum s _ = None

abbrev pub ends_summed : Inside → Option Whole
ends_summed (after_sum s k) = ends_sum s k
ends_summed _ = None

abbrev pub ends_product : Expression (List ℕ) → ProductContext → Option Whole
ends_product p k = ends_summed (product_done p k)

abbrev pub ends_multiplied : Inside → Option Whole
ends_multiplied (after_product p k) = ends_product p k
ends_multiplied _ = None

abbrev pub ends_name : List ℕ → FactorContext → Option Whole
ends_name x k = ends_multiplied (factor_done (Variable x) k)

-- the sum or the guard that ends here, if one may
abbrev pub whole_at : Inside → Option Whole
whole_at (at_unit k) = None
whole_at (after_conjunction c k) = ends_conjunction c k
whole_at (after_guard g k) = ends_guard g k
whole_at (at_factor k) = None
whole_at (after_name x k) = ends_name x k
whole_at (after_product p k) = ends_product p k
whole_at (after_sum s k) = ends_sum s k

-- a token that cannot follow ends what is whole, and is left
abbrev pub end_whole : {Y : Type 0} → Token → Option Whole → (Whole → Result Y TextFault) → Result Y TextFault
end_whole t (Some w) after = after w
end_whole t None after = Err (refusal (t ∷ []))

abbrev pub take_expression_token : {Y : Type 0} → Token → Option Inside → (Inside → Result Y TextFault) → Option Whole
    → (Whole → Result Y TextFault) → Result Y TextFault
take_expression_token t (Some s) go w after = cond t.past_limit (Err (fault_at t Operators)) (go s)
take_expression_token t None go w after = end_whole t w after

-- from a place inside on, what is read whole and the tokens after it, or the first fault
abbrev pub parse_expression : List Token → Inside → Result (Whole × List Token) TextFault
parse_expression [] s = Err (refusal [])
parse_expression (t ∷ ts) s = take_expression_token t (expression_step s t.kind) (parse_expression ts) (whole_at s)
    (λ w. Ok (w, t ∷ ts))
