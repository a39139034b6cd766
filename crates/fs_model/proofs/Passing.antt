-- What the transitions of a state pass its branches pass.
use Rattle.std.proofs.Common.{◌≡◌, ℕ, List, [], ◌∷◌, ◌++◌, refl, ◌∙◌, ap, ap₂}
use Rattle.std.specs.Prelude.{Bool, true, ◌&&◌, Option, Some, None}
use Rattle.std.specs.List.{list_all}
use Rattle.std.proofs.lemmas.List.Folds.{list_all-append}
use Rattle.std.proofs.lemmas.Bool.{and_from}
use Rattle.base_laws.proofs.Booleans.{and_first, and_second}
use Rattle.fs_model.specs.Expressions.{Literal, Guard, Test, Not, And, Or, Assignment, Transition}
use Rattle.fs_model.specs.Trees.{Tree, Empty, Leaf, Node, tree_of_guard, tree_of_condition, tree_of_transitions, leaves, branches_of, negated_literal}
use Rattle.fs_model.specs.PartFolds.{Listing, uses_in_literal, uses_in_guard, uses_in_condition, uses_in_assignment, uses_in_assignments, guard_passes}
use Rattle.fs_model.specs.PartFolds.{condition_passes, transition_passes, branch_passes}

module _ (T : Literal ℕ → Bool) (same : (l : Literal ℕ) → T (negated_literal l) ≡ T l) (C : List (Assignment ℕ) → Bool) (S : ℕ → Bool) where
  abbrev tree_passes : Tree → Bool
  tree_passes Empty = true
  tree_passes (Leaf assignments target) = C assignments && S target
  tree_passes (Node l on_yes on_no) = T l && (tree_passes on_yes && tree_passes on_no)

  guard_tree : (g : Guard ℕ) (y n : Tree) → guard_passes T g ≡ true → tree_passes y ≡ true → tree_passes n ≡ true → tree_passes (tree_of_guard g y n) ≡ true
  guard_tree (Test l) y n h p q = and_from (T l) (tree_passes y && tree_passes n) h (and_from (tree_passes y) (tree_passes n) p q)
  guard_tree (Not g) y n h p q = guard_tree g n y h q p
  guard_tree (And a b) y n h p q = guard_tree a (tree_of_guard b y n) n (and_first (guard_passes T a) (guard_passes T b) h)
      (guard_tree b y n (and_second (guard_passes T a) (guard_passes T b) h) p q) q
  guard_tree (Or a b) y n h p q = guard_tree a y (tree_of_guard b y n) (and_first (guard_passes T a) (guard_passes T b) h) p
      (guard_tree b y n (and_second (guard_passes T a) (guard_passes T b) h) p q)

  condition_tree : (g : Option (Guard ℕ)) (y n : Tree) → condition_passes T g ≡ true → tree_passes y ≡ true → tree_passes n ≡ true
      → tree_passes (tree_of_condition g y n) ≡ true
  condition_tree None y n h p q = p
  condition_tree (Some g) y n h p q = guard_tree g y n h p q

  transitions_tree : (ls : List (Transition ℕ ℕ)) → list_all (transition_passes T C S) ls ≡ true → tree_passes (tree_of_transitions ls) ≡ true
  transitions_tree [] h = refl
  transitions_tree (l ∷ ls) h =
      let here = and_first (transition_passes T C S l) (list_all (transition_passes T C S) ls) h in
      condition_tree l.guard (Leaf l.assignments l.target) (tree_of_transitions ls)
      (and_first (condition_passes T l.guard) (C l.assignments && S l.target) here)
      (and_second (condition_passes T l.guard) (C l.assignments && S l.target) here)
      (transitions_tree ls (and_second (transition_passes T C S l) (list_all (transition_passes T C S) ls) h))

  list_all_with_last : (way : List (Literal ℕ)) (l : Literal ℕ) → list_all T way ≡ true → T l ≡ true → list_all T (way ++ l ∷ []) ≡ true
  list_all_with_last way l h p = list_all-append T way (l ∷ []) ∙ and_from (list_all T way) (T l && true) h (and_from (T l) true p refl)

  leaves_pass : (t : Tree) (way : List (Literal ℕ)) → tree_passes t ≡ true → list_all T way ≡ true → list_all (branch_passes T C S) (leaves t way) ≡ true
  leaves_pass Empty way h p = refl
  leaves_pass (Leaf assignments target) way h p = and_from (list_all T way && (C assignments && S target)) true
      (and_from (list_all T way) (C assignments && S target) p h) refl
  leaves_pass (Node l y n) way h p =
      let here = and_first (T l) (tree_passes y && tree_passes n) h in
      let below = and_second (T l) (tree_passes y && tree_passes n) h in
      list_all-append (branch_passes T C S) (leaves y (way ++ l ∷ [])) (leaves n (way ++ negated_literal l ∷ []))
      ∙ and_from (list_all (branch_passes T C S) (leaves y (way ++ l ∷ []))) (list_all (branch_passes T C S) (leaves n (way ++ negated_literal l ∷ [])))
      (leaves_pass y (way ++ l ∷ []) (and_first (tree_passes y) (tree_passes n) below) (list_all_with_last way l p here))
      (leaves_pass n (way ++ negated_literal l ∷ []) (and_second (tree_passes y) (tree_passes n) below)
      (list_all_with_last way (negated_literal l) p (same l ∙ here)))

  pub branches_pass : (ls : List (Transition ℕ ℕ)) → list_all (transition_passes T C S) ls ≡ true → list_all (branch_passes T C S) (branches_of ls) ≡ true
  branches_pass ls h = leaves_pass (tree_of_transitions ls) [] (transitions_tree ls h) refl

-- ---- tests of uses

pub guard_uses : {A : Type 0} (p : A → Bool) (u : Listing A) (g : Guard ℕ)
    → list_all p (uses_in_guard u g) ≡ guard_passes (λ l. list_all p (uses_in_literal u l)) g
guard_uses p u (Test l) = refl
guard_uses p u (Not g) = guard_uses p u g
guard_uses p u (And a b) = list_all-append p (uses_in_guard u a) (uses_in_guard u b) ∙ ap₂ (λ (x y : Bool). x && y) (guard_uses p u a) (guard_uses p u b)
guard_uses p u (Or a b) = list_all-append p (uses_in_guard u a) (uses_in_guard u b) ∙ ap₂ (λ (x y : Bool). x && y) (guard_uses p u a) (guard_uses p u b)

pub condition_uses : {A : Type 0} (p : A → Bool) (u : Listing A) (g : Option (Guard ℕ))
    → list_all p (uses_in_condition u g) ≡ condition_passes (λ l. list_all p (uses_in_literal u l)) g
condition_uses p u None = refl
condition_uses p u (Some g) = guard_uses p u g

pub assignments_uses : {A : Type 0} (p : A → Bool) (u : Listing A) (bs : List (Assignment ℕ))
    → list_all p (uses_in_assignments u bs) ≡ list_all (λ a. list_all p (uses_in_assignment u a)) bs
assignments_uses p u [] = refl
assignments_uses p u (a ∷ bs) = list_all-append p (uses_in_assignment u a) (uses_in_assignments u bs)
    ∙ ap (λ r. list_all p (uses_in_assignment u a) && r) (assignments_uses p u bs)
