-- The decision tree of a state's transitions, and its branches.
use Rattle.std.specs.Prelude.{ℕ, ◌+◌, Bool, List, [], ◌∷◌, ◌++◌, map, filter, Option, Some, None, option_map}
use Rattle.std.specs.List.{list_all}
use Rattle.fs_model.specs.declared.parts.Rel.{Rel}
use Rattle.fs_model.specs.declared.parts.Rel.TheVariants.{Eq, Ne, Lt, Le, Gt, Ge}
use Rattle.fs_model.specs.Expressions.{Literal, Guard, Test, Not, And, Or, Assignment, Transition}
use Rattle.fs_model.specs.Stores.{Store}
use Rattle.fs_model.specs.Meaning.{literal_holds, transition_taken}

-- a leaf takes a transition, or none where there is none left
pub data Tree : Type 0 where
  Empty : Tree
  Leaf : List (Assignment ℕ) → (target : ℕ) → Tree
  Node : Literal ℕ → (on_yes on_no : Tree) → Tree

abbrev pub tree_of_guard : Guard ℕ → (on_yes on_no : Tree) → Tree
tree_of_guard (Test l) on_yes on_no = Node l on_yes on_no
tree_of_guard (Not c) on_yes on_no = tree_of_guard c on_no on_yes
tree_of_guard (And c d) on_yes on_no = tree_of_guard c (tree_of_guard d on_yes on_no) on_no
tree_of_guard (Or c d) on_yes on_no = tree_of_guard c on_yes (tree_of_guard d on_yes on_no)

abbrev pub tree_of_condition : Option (Guard ℕ) → (on_yes on_no : Tree) → Tree
tree_of_condition None on_yes on_no = on_yes
tree_of_condition (Some c) on_yes on_no = tree_of_guard c on_yes on_no

abbrev pub tree_of_transitions : List (Transition ℕ ℕ) → Tree
tree_of_transitions [] = Empty
tree_of_transitions (l ∷ ls) = tree_of_condition l.guard (Leaf l.assignments l.target) (tree_of_transitions ls)

-- the relation that holds where another doesn't
abbrev pub opposite : Rel → Rel
opposite Eq = Ne
opposite Ne = Eq
opposite Lt = Ge
opposite Ge = Lt
opposite Le = Gt
opposite Gt = Le

abbrev pub negated_literal : Literal ℕ → Literal ℕ
negated_literal l = record { relation = opposite l.relation; left = l.left; right = l.right }

-- a leaf, with the literals on its way in order
pub record Branch : Type 0 where
  pub literals : List (Literal ℕ)
  pub assignments : List (Assignment ℕ)
  pub target : ℕ

-- the leaves below a way, yes before no; on a no way the literal is negated
abbrev pub leaves : Tree → List (Literal ℕ) → List Branch
leaves Empty way = []
leaves (Leaf assignments target) way = record { literals = way; assignments = assignments; target = target } ∷ []
leaves (Node l on_yes on_no) way = leaves on_yes (way ++ l ∷ []) ++ leaves on_no (way ++ negated_literal l ∷ [])

-- the branches of a state
abbrev pub branches_of : List (Transition ℕ ℕ) → List Branch
branches_of ls = leaves (tree_of_transitions ls) []

abbrev pub count_leaves : Tree → ℕ
count_leaves Empty = 0
count_leaves (Leaf assignments target) = 1
count_leaves (Node l on_yes on_no) = count_leaves on_yes + count_leaves on_no

-- whether all literals of a way hold
abbrev pub literals_hold : List (Literal ℕ) → Store → Bool
literals_hold ls s = list_all (λ l. literal_holds l s) ls

abbrev pub branch_holds : Store → Branch → Bool
branch_holds s b = literals_hold b.literals s

-- what is done on a branch or a transition: its assignments and its target
abbrev pub Effect : Type 0
Effect = List (Assignment ℕ) × ℕ

-- what the branches do whose literals all hold
abbrev pub effects_open : List Branch → Store → List Effect
effects_open bs s = map (λ b. (b.assignments, b.target)) (filter (branch_holds s) bs)

abbrev pub effect_taken : List (Transition ℕ ℕ) → Store → Option Effect
effect_taken ls s = option_map (λ l. (l.assignments, l.target)) (transition_taken ls s)
