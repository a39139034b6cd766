-- Examples of what is spelled.
use Rattle.std.specs.Prelude.{ℕ, List, [], ◌∷◌}
use Rattle.fs_model.specs.declared.parts.Rel.{Rel}
use Rattle.fs_model.specs.Expressions.{Variable, Difference, Test, Not, And}
use Rattle.fs_grammar.specs.declared.token.TokenKind.TheVariants.{Name, Minus, Bang, AndAnd, Relation}
use Rattle.fs_grammar.specs.Spelling.{at, IsProduct, factor, variable, IsSum, product, minus, IsUnit, not, literal, unit, and, IsGuard, conjunction}

named : (n : ℕ) (x : List ℕ) → IsProduct (Variable x) (at n (Name x) ∷ [])
named n x = factor (variable n x)

pub left_sum : (n : ℕ) (x y z : List ℕ) → IsSum (Difference (Difference (Variable x) (Variable y)) (Variable z))
    (at n (Name x) ∷ at n Minus ∷ at n (Name y) ∷ at n Minus ∷ at n (Name z) ∷ [])
left_sum n x y z = minus n (minus n (product (named n x)) (named n y)) (named n z)

compared : (n : ℕ) (r : Rel) (x y : List ℕ) → IsUnit (Test (record { relation = r; left = Variable x; right = Variable y }))
    (at n (Name x) ∷ at n (Relation r) ∷ at n (Name y) ∷ [])
compared n r x y = literal n r (product (named n x)) (product (named n y))

pub negated_literal : (n : ℕ) (r : Rel) (x y z : List ℕ)
    → IsGuard
    (And (Not (Test (record { relation = r; left = Variable x; right = Variable y }))) (Test (record { relation = r; left = Variable x; right = Variable z })))
    (at n Bang ∷ at n (Name x) ∷ at n (Relation r) ∷ at n (Name y) ∷ at n AndAnd ∷ at n (Name x) ∷ at n (Relation r) ∷ at n (Name z) ∷ [])
negated_literal n r x y z = conjunction (and n (unit (not n (compared n r x y))) (compared n r x z))
