-- What has been read at each place inside.
use Rattle.std.specs.Prelude.{ℕ, List, [], ◌∷◌, ◌++◌}
use Rattle.fs_model.specs.declared.parts.Rel.{Rel}
use Rattle.fs_model.specs.Expressions.{Expression, Guard}
use Rattle.fs_grammar.specs.declared.token.TokenKind.{TokenKind}
use Rattle.fs_grammar.specs.declared.token.TokenKind.TheVariants.{Name, OpenParen, OpenBracket, OpenBrace, Plus, Minus, Star, Slash, Percent, Bang, AndAnd}
use Rattle.fs_grammar.specs.declared.token.TokenKind.TheVariants.{OrOr, Relation}
use Rattle.fs_grammar.specs.Spelling.{Word, at, IsProduct, IsSum, IsConjunction, IsGuard}
use Rattle.fs_grammar.proofs.Reached.{Cut, Is}
use Rattle.fs_expression_text.specs.declared.operators.ProductOperator.{ProductOperator}
use Rattle.fs_expression_text.specs.declared.operators.ProductOperator.TheVariants as products
use Rattle.fs_expression_text.specs.declared.operators.SumOperator.{SumOperator}
use Rattle.fs_expression_text.specs.declared.operators.SumOperator.TheVariants as sums
use Rattle.fs_expression_text.specs.Inside as inner
use Rattle.fs_expression_text.specs.Inside.{UnitContext, ConjunctionContext, GuardContext, FactorContext, ProductContext, SumContext, Inside, at_unit}
use Rattle.fs_expression_text.specs.Inside.{after_conjunction, after_guard, at_factor, after_name, after_product, after_sum}
use Rattle.fs_phrase_text.specs.Expressions.{ExpressionKind, a_sum, a_guard}

-- the tokens of operators
abbrev pub product_sign : ProductOperator → TokenKind
product_sign products.Times = Star
product_sign products.Divide = Slash
product_sign products.Remainder = Percent

abbrev pub sum_sign : SumOperator → TokenKind
sum_sign sums.Plus = Plus
sum_sign sums.Minus = Minus

-- ---- what was read before a part

mutual
  pub data BeforeUnit : ExpressionKind → UnitContext → List Word → Type 0 where
    negates : (e : ExpressionKind) (n : ℕ) (k : UnitContext) (a : List Word) → BeforeUnit e k a → BeforeUnit e (inner.negates k) (a ++ at n Bang ∷ [])
    first_of_all : (e : ExpressionKind) (k : ConjunctionContext) (a : List Word) → BeforeConjunction e k a → BeforeUnit e (inner.first_of_all k) a
    and_after : (e : ExpressionKind) (n : ℕ) (c : Guard (List ℕ)) (k : ConjunctionContext) (a b : List Word) → BeforeConjunction e k a → IsConjunction c b
        → BeforeUnit e (inner.and_after c k) (a ++ (b ++ at n AndAnd ∷ []))

  pub data BeforeConjunction : ExpressionKind → ConjunctionContext → List Word → Type 0 where
    first_of_any : (e : ExpressionKind) (k : GuardContext) (a : List Word) → BeforeGuard e k a → BeforeConjunction e (inner.first_of_any k) a
    or_after : (e : ExpressionKind) (n : ℕ) (g : Guard (List ℕ)) (k : GuardContext) (a b : List Word) → BeforeGuard e k a → IsGuard g b
        → BeforeConjunction e (inner.or_after g k) (a ++ (b ++ at n OrOr ∷ []))

  pub data BeforeGuard : ExpressionKind → GuardContext → List Word → Type 0 where
    braces : (e : ExpressionKind) (n : ℕ) (k : UnitContext) (a : List Word) → BeforeUnit e k a → BeforeGuard e (inner.braces k) (a ++ at n OpenBrace ∷ [])
    guard_alone : BeforeGuard a_guard inner.guard_alone []

mutual
  pub data BeforeFactor : ExpressionKind → FactorContext → List Word → Type 0 where
    first_factor : (e : ExpressionKind) (k : ProductContext) (a : List Word) → BeforeProduct e k a → BeforeFactor e (inner.first_factor k) a
    next_factor : (e : ExpressionKind) (n : ℕ) (o : ProductOperator) (p : Expression (List ℕ)) (k : ProductContext) (a b : List Word) → BeforeProduct e k a
        → IsProduct p b → BeforeFactor e (inner.next_factor o p k) (a ++ (b ++ at n (product_sign o) ∷ []))
    negative : (e : ExpressionKind) (n : ℕ) (k : FactorContext) (a : List Word) → BeforeFactor e k a → BeforeFactor e (inner.negative k) (a ++ at n Minus ∷ [])

  pub data BeforeProduct : ExpressionKind → ProductContext → List Word → Type 0 where
    first_product : (e : ExpressionKind) (k : SumContext) (a : List Word) → BeforeSum e k a → BeforeProduct e (inner.first_product k) a
    next_product : (e : ExpressionKind) (n : ℕ) (o : SumOperator) (s : Expression (List ℕ)) (k : SumContext) (a b : List Word) → BeforeSum e k a → IsSum s b
        → BeforeProduct e (inner.next_product o s k) (a ++ (b ++ at n (sum_sign o) ∷ []))

  pub data BeforeSum : ExpressionKind → SumContext → List Word → Type 0 where
    parens : (e : ExpressionKind) (n : ℕ) (k : FactorContext) (a : List Word) → BeforeFactor e k a → BeforeSum e (inner.parens k) (a ++ at n OpenParen ∷ [])
    index : (e : ExpressionKind) (n m : ℕ) (x : List ℕ) (k : FactorContext) (a : List Word) → BeforeFactor e k a
        → BeforeSum e (inner.index x k) (a ++ (at n (Name x) ∷ at m OpenBracket ∷ []))
    left : (e : ExpressionKind) (k : UnitContext) (a : List Word) → BeforeUnit e k a → BeforeSum e (inner.left k) a
    right : (e : ExpressionKind) (n : ℕ) (r : Rel) (l : Expression (List ℕ)) (k : UnitContext) (a b : List Word) → BeforeUnit e k a → IsSum l b
        → BeforeSum e (inner.right r l k) (a ++ (b ++ at n (Relation r) ∷ []))
    sum_alone : BeforeSum a_sum inner.sum_alone []

abbrev pub Reached : ExpressionKind → Inside → List Word → Type 0
Reached e (at_unit k) ws = BeforeUnit e k ws
Reached e (after_conjunction c k) ws = Cut (BeforeConjunction e k) (IsConjunction c) ws
Reached e (after_guard g k) ws = Cut (BeforeGuard e k) (IsGuard g) ws
Reached e (at_factor k) ws = BeforeFactor e k ws
Reached e (after_name x k) ws = (n : ℕ) × Cut (BeforeFactor e k) (Is (at n (Name x) ∷ [])) ws
Reached e (after_product p k) ws = Cut (BeforeProduct e k) (IsProduct p) ws
Reached e (after_sum s k) ws = Cut (BeforeSum e k) (IsSum s) ws
