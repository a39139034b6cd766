-- The branch that a store takes.
use Rattle.std.specs.Prelude.{◌≡◌, ℕ, Bool, List, [], ◌∷◌, Some, filter}
use Rattle.std.specs.List.{list_all}
use Rattle.fs_model.specs.Expressions.{Literal, Transition}
use Rattle.fs_model.specs.Stores.{Store}
use Rattle.fs_model.specs.Meaning.{literal_holds, transition_taken}
use Rattle.fs_model.specs.Trees.{Branch, branches_of}

-- whether all literals of a way hold
abbrev pub all_hold : List (Literal ℕ) → Store → Bool
all_hold way s = list_all (λ l. literal_holds l s) way

-- of the branches of transitions one has all its literals true, and it is that of the transition taken
pub record TakesOneBranch (ls : List (Transition ℕ ℕ)) (s : Store) : Type 0 where
  pub transition : Transition ℕ ℕ
  pub taken : transition_taken ls s ≡ Some transition
  pub branch : Branch
  pub one : filter (λ b. all_hold b.literals s) (branches_of ls) ≡ branch ∷ []
  pub assignments : branch.assignments ≡ transition.assignments
  pub target : branch.target ≡ transition.target
