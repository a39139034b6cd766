-- How many leaves a tree has.
use Rattle.std.proofs.Common.{◌≡◌, ℕ, ◌+◌, List, [], ◌∷◌, ◌++◌, length, refl, sym, ◌∙◌, ap, ap₂, length-append, arith}
use Rattle.std.specs.Prelude.{Option, Some, None}
use Rattle.fs_model.specs.Expressions.{Literal, Guard, Test, Not, And, Or, Transition}
use Rattle.fs_model.specs.Trees.{Tree, Empty, Leaf, Node, tree_of_guard, tree_of_condition, tree_of_transitions, leaves, count_leaves, negated_literal}
use Rattle.fs_branches.specs.Forks.{leaves_by, leaves_by_condition, capped_leaves}

pub capped_both : (g : Guard ℕ) (y n v m : ℕ) → capped_leaves y ≡ capped_leaves v → capped_leaves n ≡ capped_leaves m
    → capped_leaves (leaves_by g y n) ≡ capped_leaves (leaves_by g v m)
capped_both (Test l) y n v m e f = omega arith
capped_both (Not c) y n v m e f = capped_both c n y m v f e
capped_both (And c d) y n v m e f = capped_both c (leaves_by d y n) n (leaves_by d v m) m (capped_both d y n v m e f) f
capped_both (Or c d) y n v m e f = capped_both c y (leaves_by d y n) v (leaves_by d v m) e (capped_both d y n v m e f)

capped_twice : (n : ℕ) → capped_leaves (capped_leaves n) ≡ capped_leaves n
capped_twice n = omega arith

pub capped_yes : (g : Guard ℕ) (y n : ℕ) → capped_leaves (leaves_by g (capped_leaves y) n) ≡ capped_leaves (leaves_by g y n)
capped_yes g y n = capped_both g (capped_leaves y) n y n (capped_twice y) refl

pub capped_no : (g : Guard ℕ) (y n : ℕ) → capped_leaves (leaves_by g y (capped_leaves n)) ≡ capped_leaves (leaves_by g y n)
capped_no g y n = capped_both g y (capped_leaves n) y n refl (capped_twice n)

pub count_guard : (g : Guard ℕ) (y n : Tree) → count_leaves (tree_of_guard g y n) ≡ leaves_by g (count_leaves y) (count_leaves n)
count_guard (Test l) y n = refl
count_guard (Not c) y n = count_guard c n y
count_guard (And c d) y n = count_guard c (tree_of_guard d y n) n ∙ ap (λ k. leaves_by c k (count_leaves n)) (count_guard d y n)
count_guard (Or c d) y n = count_guard c y (tree_of_guard d y n) ∙ ap (λ k. leaves_by c (count_leaves y) k) (count_guard d y n)

pub count_guarded : (g : Option (Guard ℕ)) (y n : Tree) → count_leaves (tree_of_condition g y n) ≡ leaves_by_condition g (count_leaves y) (count_leaves n)
count_guarded None y n = refl
count_guarded (Some c) y n = count_guard c y n

capped_guard : (g : Option (Guard ℕ)) (n : ℕ) → capped_leaves (leaves_by_condition g 1 (capped_leaves n)) ≡ capped_leaves (leaves_by_condition g 1 n)
capped_guard None n = refl
capped_guard (Some c) n = capped_no c 1 n

-- one more transition in front
pub count_more : (l : Transition ℕ ℕ) (ls : List (Transition ℕ ℕ)) (rest count : ℕ) → rest ≡ capped_leaves (count_leaves (tree_of_transitions ls))
    → count ≡ capped_leaves (leaves_by_condition l.guard 1 rest) → count ≡ capped_leaves (count_leaves (tree_of_transitions (l ∷ ls)))
count_more l ls rest count e f =
    f ∙ ap (λ k. capped_leaves (leaves_by_condition l.guard 1 k)) e ∙ capped_guard l.guard (count_leaves (tree_of_transitions ls))
    ∙ ap capped_leaves (sym (count_guarded l.guard (Leaf l.assignments l.target) (tree_of_transitions ls)))

pub length_leaves : (t : Tree) (way : List (Literal ℕ)) → length (leaves t way) ≡ count_leaves t
length_leaves Empty way = refl
length_leaves (Leaf assignments target) way = refl
length_leaves (Node l y n) way =
    length-append (leaves y (way ++ l ∷ [])) (leaves n (way ++ negated_literal l ∷ []))
    ∙ ap₂ (λ (a b : ℕ). a + b) (length_leaves y (way ++ l ∷ [])) (length_leaves n (way ++ negated_literal l ∷ []))
