-- What holds of the assignments of all branches of a state holds of those of all its transitions, and the other way round.
use Rattle.std.proofs.Common.{◌≡◌, ℕ, List, [], ◌∷◌, ◌++◌, refl, sym, ◌∙◌, ap, ap₂, Option, Some, None, Bool, true, false}
use Rattle.std.specs.Prelude.{not, ◌&&◌}
use Rattle.std.specs.List.{list_all}
use Rattle.std.specs.Option.{is_none}
use Rattle.std.proofs.lemmas.List.Folds.{list_all-append}
use Rattle.std.proofs.lemmas.Bool.{not-true}
use Rattle.fs_model.proofs.Booleans.{and_first, and_second, and_true}
use Rattle.fs_model.specs.Expressions.{Literal, Guard, Test, Not, And, Or, Assignment, Transition}
use Rattle.fs_model.specs.Trees.{Tree, Empty, Leaf, Node, Branch, tree_of_guard, tree_of_condition, tree_of_transitions, leaves, branches_of, negated_literal}
use Rattle.fs_model.specs.SoundMachines.{ends_open, is_open}

swapped : (a b : Bool) → (a && b) ≡ (b && a)
swapped true true = refl
swapped true false = refl
swapped false true = refl
swapped false false = refl

once_behind : (a b : Bool) → ((a && b) && b) ≡ (a && b)
once_behind true true = refl
once_behind true false = refl
once_behind false b = refl

once_before : (a b : Bool) → (a && (a && b)) ≡ (a && b)
once_before true b = refl
once_before false b = refl

module _ (P : List (Assignment ℕ) → Bool) where
  abbrev each_leaf : Tree → Bool
  each_leaf Empty = true
  each_leaf (Leaf assignments target) = P assignments
  each_leaf (Node l on_yes on_no) = each_leaf on_yes && each_leaf on_no

  leaves_are : (t : Tree) (way : List (Literal ℕ)) → list_all (λ (b : Branch). P b.assignments) (leaves t way) ≡ each_leaf t
  leaves_are Empty way = refl
  leaves_are (Leaf assignments target) way = and_true (P assignments)
  leaves_are (Node l y n) way =
      list_all-append (λ (b : Branch). P b.assignments) (leaves y (way ++ l ∷ [])) (leaves n (way ++ negated_literal l ∷ []))
      ∙ ap₂ (λ (a b : Bool). a && b) (leaves_are y (way ++ l ∷ [])) (leaves_are n (way ++ negated_literal l ∷ []))

  guard_leaves : (g : Guard ℕ) (y n : Tree) → each_leaf (tree_of_guard g y n) ≡ (each_leaf y && each_leaf n)
  guard_leaves (Test l) y n = refl
  guard_leaves (Not c) y n = guard_leaves c n y ∙ swapped (each_leaf n) (each_leaf y)
  guard_leaves (And c d) y n = guard_leaves c (tree_of_guard d y n) n ∙ ap (λ b. b && each_leaf n) (guard_leaves d y n)
      ∙ once_behind (each_leaf y) (each_leaf n)
  guard_leaves (Or c d) y n = guard_leaves c y (tree_of_guard d y n) ∙ ap (λ b. each_leaf y && b) (guard_leaves d y n) ∙ once_before (each_leaf y) (each_leaf n)

  last_leaves : (g : Option (Guard ℕ)) (assignments : List (Assignment ℕ)) (target : ℕ)
      → each_leaf (tree_of_condition g (Leaf assignments target) Empty) ≡ (P assignments && true)
  last_leaves None assignments target = sym (and_true (P assignments))
  last_leaves (Some g) assignments target = guard_leaves g (Leaf assignments target) Empty

  guarded_leaves : (g : Option (Guard ℕ)) (assignments : List (Assignment ℕ)) (target : ℕ) (rest : Tree) → is_none g ≡ false
      → each_leaf (tree_of_condition g (Leaf assignments target) rest) ≡ (P assignments && each_leaf rest)
  guarded_leaves None assignments target rest h = absurd (cc h)
  guarded_leaves (Some g) assignments target rest h = guard_leaves g (Leaf assignments target) rest

  blocks_leaves : (ls : List (Transition ℕ ℕ)) → ends_open ls ≡ true
      → each_leaf (tree_of_transitions ls) ≡ list_all (λ (l : Transition ℕ ℕ). P l.assignments) ls
  blocks_leaves [] h = absurd (cc h)
  blocks_leaves (l ∷ []) h = last_leaves l.guard l.assignments l.target
  blocks_leaves (l ∷ k ∷ rest) h =
      guarded_leaves l.guard l.assignments l.target (tree_of_transitions (k ∷ rest))
      (not-true (is_open l) (and_first (not (is_open l)) (ends_open (k ∷ rest)) h))
      ∙ ap (λ b. P l.assignments && b) (blocks_leaves (k ∷ rest) (and_second (not (is_open l)) (ends_open (k ∷ rest)) h))

  pub branches_are : (ls : List (Transition ℕ ℕ)) → ends_open ls ≡ true
      → list_all (λ (b : Branch). P b.assignments) (branches_of ls) ≡ list_all (λ (l : Transition ℕ ℕ). P l.assignments) ls
  branches_are ls h = leaves_are (tree_of_transitions ls) [] ∙ blocks_leaves ls h
