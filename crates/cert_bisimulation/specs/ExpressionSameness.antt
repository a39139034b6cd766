-- Expressions of two machines that are the same, where a name is one symbol in both.
use Rattle.std.specs.Prelude.{◌≡◌, ℕ, List, [], ◌∷◌, Some, slice_get}
use Rattle.fs_model.specs.declared.parts.Sort.{Sort}
use Rattle.fs_model.specs.declared.parts.Sort.TheVariants as sort
use Rattle.fs_model.specs.declared.parts.VarInfo.{VarInfo}
use Rattle.fs_model.specs.Expressions.{Literal}
use Rattle.fs_model.specs.Machines.{Fsmd}
use Rattle.cert_bisimulation.specs.PathExpressions.{PathExpression, Constant, Initial, Element, Plus, Minus, Times, Over, Rest}
use Rattle.cert_bisimulation.specs.PathExpressions.{Opposite, ArrayExpression, InitialArray, Stored, ListExpression, InitialList}
use Rattle.cert_bisimulation.specs.PathExpressions.{Pushed, ExpressionVector, initial, path_expression}

-- a variable of each machine, of one name, one role and this sort
pub record AreTwins (a b : Fsmd) (sort : Sort) (x y : ℕ) : Type 0 where
  pub variable : VarInfo
  pub left : slice_get a.variables x ≡ Some variable
  pub right : slice_get b.variables y ≡ Some variable
  pub sorted : variable.sort ≡ sort

abbrev mutual
  pub Same : (a b : Fsmd) → PathExpression → PathExpression → Type 0
  Same a b (Constant n) z = z ≡ Constant n
  Same a b (Initial x) z = (y : ℕ) × (z ≡ Initial y) × AreTwins a b sort.Scalar x y
  Same a b (Element c i) z = (d : ArrayExpression) × (j : PathExpression) × (z ≡ Element d j) × SameArray a b c d × Same a b i j
  Same a b (Plus e f) z = (g : PathExpression) × (h : PathExpression) × (z ≡ Plus g h) × Same a b e g × Same a b f h
  Same a b (Minus e f) z = (g : PathExpression) × (h : PathExpression) × (z ≡ Minus g h) × Same a b e g × Same a b f h
  Same a b (Times e f) z = (g : PathExpression) × (h : PathExpression) × (z ≡ Times g h) × Same a b e g × Same a b f h
  Same a b (Over e f) z = (g : PathExpression) × (h : PathExpression) × (z ≡ Over g h) × Same a b e g × Same a b f h
  Same a b (Rest e f) z = (g : PathExpression) × (h : PathExpression) × (z ≡ Rest g h) × Same a b e g × Same a b f h
  Same a b (Opposite e) z = (g : PathExpression) × (z ≡ Opposite g) × Same a b e g

  pub SameArray : (a b : Fsmd) → ArrayExpression → ArrayExpression → Type 0
  SameArray a b (InitialArray x) z = (y : ℕ) × (z ≡ InitialArray y) × AreTwins a b sort.Array x y
  SameArray a b (Stored c i e) z =
      (d : ArrayExpression) × (j : PathExpression) × (f : PathExpression) × (z ≡ Stored d j f) × SameArray a b c d
      × Same a b i j × Same a b e f

abbrev pub SameListExpression : (a b : Fsmd) → ListExpression → ListExpression → Type 0
SameListExpression a b (InitialList x) z = (y : ℕ) × (z ≡ InitialList y) × AreTwins a b sort.Port x y
SameListExpression a b (Pushed l e) z = (m : ListExpression) × (f : PathExpression) × (z ≡ Pushed m f)
    × SameListExpression a b l m × Same a b e f

-- the same literals in order, over what stands at the start
abbrev pub SameLiterals : (a b : Fsmd) → List (Literal ℕ) → List (Literal ℕ) → Type 0
SameLiterals a b [] ms = ms ≡ []
SameLiterals a b (l ∷ ls) ms =
    (m : Literal ℕ) × (rest : List (Literal ℕ)) × (ms ≡ m ∷ rest) × (l.relation ≡ m.relation)
    × Same a b (path_expression initial l.left) (path_expression initial m.left)
    × Same a b (path_expression initial l.right) (path_expression initial m.right) × SameLiterals a b ls rest

-- the same is left under each name
pub record SameLeft (a b : Fsmd) (s t : ExpressionVector) : Type 0 where
  pub scalars : (x y : ℕ) → AreTwins a b sort.Scalar x y → Same a b (s.scalar x) (t.scalar y)
  pub arrays : (x y : ℕ) → AreTwins a b sort.Array x y → SameArray a b (s.array x) (t.array y)
  pub ports : (x y : ℕ) → AreTwins a b sort.Port x y → SameListExpression a b (s.port x) (t.port y)
