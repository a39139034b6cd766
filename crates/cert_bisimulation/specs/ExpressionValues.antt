-- What expressions are worth over a store at the start.
use Rattle.std.specs.Prelude.{cond, ℤ, ◌+ℤ◌, ◌-ℤ◌, ◌*ℤ◌, neg_ℤ, List, [], ◌∷◌, ◌++◌}
use Rattle.std.specs.Ordering.{int_eq}
use Rattle.fs_model.specs.Division.{quotient, remainder}
use Rattle.fs_model.specs.Stores.{Store}
use Rattle.cert_bisimulation.specs.PathExpressions.{PathExpression, Constant, Initial, Element, Plus, Minus, Times, Over, Rest}
use Rattle.cert_bisimulation.specs.PathExpressions.{Opposite, ArrayExpression, InitialArray, Stored, ListExpression, InitialList}
use Rattle.cert_bisimulation.specs.PathExpressions.{Pushed}

abbrev mutual
  pub value_in : Store → PathExpression → ℤ
  value_in s (Constant n) = n
  value_in s (Initial x) = s.scalar x
  value_in s (Element a i) = array_in s a (value_in s i)
  value_in s (Plus a b) = value_in s a +ℤ value_in s b
  value_in s (Minus a b) = value_in s a -ℤ value_in s b
  value_in s (Times a b) = value_in s a *ℤ value_in s b
  value_in s (Over a b) = quotient (value_in s a) (value_in s b)
  value_in s (Rest a b) = remainder (value_in s a) (value_in s b)
  value_in s (Opposite a) = neg_ℤ (value_in s a)

  pub array_in : Store → ArrayExpression → ℤ → ℤ
  array_in s (InitialArray x) j = s.array x j
  array_in s (Stored a i e) j = cond (int_eq (value_in s i) j) (value_in s e) (array_in s a j)

abbrev pub list_in : Store → ListExpression → List ℤ
list_in s (InitialList x) = s.port x
list_in s (Pushed l e) = list_in s l ++ value_in s e ∷ []
