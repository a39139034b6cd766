-- A state with one branch has one transition, which has no guard.
use Rattle.std.proofs.Common.{◌≡◌, ℕ, ◌+◌, ◌≤◌, List, [], ◌∷◌, length, ap, sym, refl, ◌∙◌, arith, Option, Some, None, true, false}
use Rattle.std.specs.Prelude.{not}
use Rattle.std.specs.Option.{is_none}
use Rattle.std.proofs.lemmas.Bool.{not-true}
use Rattle.fs_model.proofs.Booleans.{and_first, and_second}
use Rattle.fs_model.specs.SoundMachines.{ends_open}
use Rattle.fs_model.specs.Expressions.{Guard, Test, Not, And, Or, Transition}
use Rattle.fs_model.specs.Trees.{Tree, Empty, Leaf, Branch, tree_of_guard, tree_of_condition, tree_of_transitions, leaves, branches_of, count_leaves}
use Rattle.fs_branches.proofs.Leaves.{length_leaves}

count-guard : (g : Guard ℕ) (y n : Tree) → count_leaves y + count_leaves n ≤ count_leaves (tree_of_guard g y n)
count-guard (Test l) y n = omega arith
count-guard (Not c) y n = omega (arith, count-guard c n y)
count-guard (And c d) y n = omega (arith, count-guard c (tree_of_guard d y n) n, count-guard d y n)
count-guard (Or c d) y n = omega (arith, count-guard c y (tree_of_guard d y n), count-guard d y n)

count-condition : (o : Option (Guard ℕ)) (y n : Tree) → 1 ≤ count_leaves y → 1 ≤ count_leaves (tree_of_condition o y n)
count-condition None y n h = h
count-condition (Some g) y n h = omega (arith, count-guard g y n)

count-guarded : (o : Option (Guard ℕ)) (y n : Tree) → is_none o ≡ false → count_leaves y + count_leaves n ≤ count_leaves (tree_of_condition o y n)
count-guarded None y n h = absurd (cc)
count-guarded (Some g) y n h = count-guard g y n

open-guard : (o : Option (Guard ℕ)) → is_none o ≡ true → o ≡ None
open-guard None h = refl
open-guard (Some g) h = absurd (cc)

pub count-lines : (ls : List (Transition ℕ ℕ)) → ends_open ls ≡ true → 1 ≤ count_leaves (tree_of_transitions ls)
count-lines [] h = absurd (cc)
count-lines (l ∷ []) h = count-condition l.guard (Leaf l.assignments l.target) Empty (omega arith)
count-lines (l ∷ k ∷ rest) h = count-condition l.guard (Leaf l.assignments l.target) (tree_of_transitions (k ∷ rest)) (omega arith)

-- the one transition of a state with one branch
pub record OnlyTransition (ls : List (Transition ℕ ℕ)) (b : Branch) : Type 0 where
  pub transition : Transition ℕ ℕ
  pub alone : ls ≡ transition ∷ []
  pub unguarded : transition.guard ≡ None
  pub assignments : transition.assignments ≡ b.assignments
  pub target : transition.target ≡ b.target

pub only_transition : (ls : List (Transition ℕ ℕ)) (b : Branch) → ends_open ls ≡ true → branches_of ls ≡ b ∷ [] → OnlyTransition ls b
only_transition [] b h e = absurd (cc)
only_transition (l ∷ []) b h e =
    let g : l.guard ≡ None = open-guard l.guard h in
    let f : branches_of (l ∷ []) ≡ record { literals = []; assignments = l.assignments; target = l.target } ∷ [] =
    ap (λ o. leaves (tree_of_condition o (Leaf l.assignments l.target) Empty) []) g in
    let same : record { literals = []; assignments = l.assignments; target = l.target } ≡ b = cc (sym f ∙ e) in
    record { transition = l; alone = refl; unguarded = g; assignments = ap (λ x. x.assignments) same; target = ap (λ x. x.target) same }
only_transition (l ∷ k ∷ rest) b h e =
    absurd (omega (
      arith,
      ap length e,
      length_leaves (tree_of_transitions (l ∷ k ∷ rest)) [],
      count-guarded l.guard (Leaf l.assignments l.target) (tree_of_transitions (k ∷ rest))
          (not-true (is_none l.guard) (and_first (not (is_none l.guard)) (ends_open (k ∷ rest)) h)),
      count-lines (k ∷ rest) (and_second (not (is_none l.guard)) (ends_open (k ∷ rest)) h),
    ))
