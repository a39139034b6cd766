-- Tests of joined lists.
use Rattle.std.proofs.Common.{◌≡◌, Bool, true, sym, ◌∙◌, List, ◌++◌}
use Rattle.std.specs.List.{list_all}
use Rattle.std.proofs.lemmas.List.Folds.{list_all-append}
use Rattle.std.proofs.lemmas.Bool.{and_from}
use Rattle.fs_model.proofs.Booleans.{and_first, and_second}

module _ {X : Type 0} (test : X → Bool) (xs ys : List X) where
  pub front : list_all test (xs ++ ys) ≡ true → list_all test xs ≡ true
  front h = and_first (list_all test xs) (list_all test ys) (sym (list_all-append test xs ys) ∙ h)

  pub back : list_all test (xs ++ ys) ≡ true → list_all test ys ≡ true
  back h = and_second (list_all test xs) (list_all test ys) (sym (list_all-append test xs ys) ∙ h)

  pub together : list_all test xs ≡ true → list_all test ys ≡ true → list_all test (xs ++ ys) ≡ true
  together h g = list_all-append test xs ys ∙ and_from (list_all test xs) (list_all test ys) h g
