-- Which numbers are looked at on the way to the branch that is taken.
use Rattle.std.specs.Prelude.{ℕ, cond, ℤ, ◌+ℤ◌, ◌-ℤ◌, ◌*ℤ◌, neg_ℤ, FitsSigned, List, [], ◌∷◌, ◌++◌, Option, Some, None}
use Rattle.std.specs.Int.{w128}
use Rattle.base_laws.specs.Division.{quotient, remainder}
use Rattle.fs_model.specs.Expressions.{Expression, Number, Variable, Read, Sum, Difference, Product, Quotient, Remainder}
use Rattle.fs_model.specs.Expressions.{Negative, Literal}
use Rattle.fs_model.specs.Stores.{Store}
use Rattle.fs_model.specs.Meaning.{value, literal_holds}
use Rattle.fs_model.specs.Touched.{touched_by_expression}
use Rattle.fs_model.specs.Trees.{Branch, branch_holds}

-- each part of an expression has its value within 128 bits
abbrev pub EachFits : Expression ℕ → Store → Type 0
EachFits (Number n) s = FitsSigned w128 n
EachFits (Variable x) s = FitsSigned w128 (s.scalar x)
EachFits (Read x i) s = EachFits i s × FitsSigned w128 (s.array x (value i s))
EachFits (Sum a b) s = EachFits a s × EachFits b s × FitsSigned w128 (value a s +ℤ value b s)
EachFits (Difference a b) s = EachFits a s × EachFits b s × FitsSigned w128 (value a s -ℤ value b s)
EachFits (Product a b) s = EachFits a s × EachFits b s × FitsSigned w128 (value a s *ℤ value b s)
EachFits (Quotient a b) s = EachFits a s × EachFits b s × FitsSigned w128 (quotient (value a s) (value b s))
EachFits (Remainder a b) s = EachFits a s × EachFits b s × FitsSigned w128 (remainder (value a s) (value b s))
EachFits (Negative a) s = EachFits a s × FitsSigned w128 (neg_ℤ (value a s))

-- the same of both sides of a literal
abbrev pub LiteralFits : Literal ℕ → Store → Type 0
LiteralFits l s = EachFits l.left s × EachFits l.right s

-- the numbers of a literal that is looked at
abbrev pub touched_by_literal : Literal ℕ → Store → List ℤ
touched_by_literal l s = touched_by_expression l.left s ++ touched_by_expression l.right s

-- the numbers of a way's literals, up to the first that doesn't hold
abbrev pub touched_by_way : List (Literal ℕ) → Store → List ℤ
touched_by_way [] s = []
touched_by_way (l ∷ ls) s = touched_by_literal l s ++ cond (literal_holds l s) (touched_by_way ls s) []

-- the numbers of branches that are tried in order, up to the first whose literals all hold
abbrev pub touched_by_branches : List Branch → Store → List ℤ
touched_by_branches [] s = []
touched_by_branches (b ∷ bs) s = touched_by_way b.literals s ++ cond (branch_holds s b) [] (touched_by_branches bs s)

-- the first branch whose literals all hold
abbrev pub taken_branch : List Branch → Store → Option Branch
taken_branch [] s = None
taken_branch (b ∷ bs) s = cond (branch_holds s b) (Some b) (taken_branch bs s)

-- two facts of which each gives the other
pub record Both (A B : Type 0) : Type 0 where
  pub there : A → B
  pub back : B → A
