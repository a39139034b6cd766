-- Each transition of a state is taken by some branch of it.
use Rattle.std.proofs.Common.{◌≡◌, ℕ, zero, suc, ◌<◌, length, subst, List, [], ◌∷◌, ◌++◌, ap, refl, ◌∙◌, inl, inr, ◌⊎◌, true, Option, Some, None}
use Rattle.std.specs.Prelude.{not, is_none, slice_get}
use Rattle.std.specs.List.{slice_index_or}
use Rattle.fs_model.specs.Expressions.{Literal, Guard, Test, Not, And, Or, Assignment, Transition}
use Rattle.fs_model.specs.Trees.{Tree, Empty, Leaf, Node, Branch, tree_of_guard, tree_of_condition, tree_of_transitions, leaves, branches_of, negated_literal}
use Rattle.fs_model.specs.SoundMachines.{is_open, ends_open}
use Rattle.std.proofs.lemmas.Option.{slice_get_within}
use Rattle.fs_model.proofs.Booleans.{and_first, and_second}
use Rattle.fs_model.proofs.Lists.{slice_get-front}
use Rattle.fs_ast.proofs.Rounds.{get_back}
use Rattle.fs_cut.proofs.Branches.{no_branch}

module _ (acts : List (Assignment ℕ)) where
  -- a leaf of the tree has these assignments
  abbrev HasLeaf : Tree → Type 0
  HasLeaf Empty = ⊥
  HasLeaf (Leaf own target) = own ≡ acts
  HasLeaf (Node l on_yes on_no) = HasLeaf on_yes ⊎ HasLeaf on_no

  record Sides (g : Guard ℕ) : Type 0 where
    on_yes : (y n : Tree) → HasLeaf y → HasLeaf (tree_of_guard g y n)
    on_no : (y n : Tree) → HasLeaf n → HasLeaf (tree_of_guard g y n)

  sides : (g : Guard ℕ) → Sides g
  sides (Test l) = record { on_yes = λ y n h. inl h; on_no = λ y n h. inr h }
  sides (Not c) = record { on_yes = λ y n h. (sides c).on_no n y h; on_no = λ y n h. (sides c).on_yes n y h }
  sides (And c d) = record {
    on_yes = λ y n h. (sides c).on_yes (tree_of_guard d y n) n ((sides d).on_yes y n h);
    on_no = λ y n h. (sides c).on_no (tree_of_guard d y n) n h;
  }
  sides (Or c d) = record {
    on_yes = λ y n h. (sides c).on_yes y (tree_of_guard d y n) h;
    on_no = λ y n h. (sides c).on_no y (tree_of_guard d y n) ((sides d).on_no y n h);
  }

  here : (g : Option (Guard ℕ)) (target : ℕ) (rest : Tree) → HasLeaf (tree_of_condition g (Leaf acts target) rest)
  here None target rest = refl
  here (Some g) target rest = (sides g).on_yes (Leaf acts target) rest refl

  later : (g : Option (Guard ℕ)) (first rest : Tree) → not (is_none g) ≡ true → HasLeaf rest → HasLeaf (tree_of_condition g first rest)
  later None first rest h i = absurd (cc h)
  later (Some g) first rest h i = (sides g).on_no first rest i

  record IsLeaf (bs : List Branch) : Type 0 where
    place : ℕ
    branch : Branch
    there : slice_get bs place ≡ Some branch
    same : branch.assignments ≡ acts

  leaf_of : (t : Tree) (way : List (Literal ℕ)) → HasLeaf t → IsLeaf (leaves t way)
  leaf_of Empty way h = absurd h
  leaf_of (Leaf own target) way h = record { place = 0; branch = record { literals = way; assignments = own; target = target }; there = refl; same = h }
  leaf_of (Node l y n) way (inl h) =
      let x = leaf_of y (way ++ l ∷ []) h in
      record {
        place = x.place;
        branch = x.branch;
        there = slice_get-front (leaves y (way ++ l ∷ [])) (leaves n (way ++ negated_literal l ∷ [])) x.place x.branch x.there;
        same = x.same;
      }
  leaf_of (Node l y n) way (inr h) =
      let x = leaf_of n (way ++ negated_literal l ∷ []) h in
      let g = get_back (leaves y (way ++ l ∷ [])) (leaves n (way ++ negated_literal l ∷ [])) x.place x.branch x.there in
      record { place = g.0; branch = x.branch; there = g.1; same = x.same }

taken : (ls : List (Transition ℕ ℕ)) (j : ℕ) (l : Transition ℕ ℕ) → ends_open ls ≡ true → slice_get ls j ≡ Some l
    → HasLeaf l.assignments (tree_of_transitions ls)
taken [] j l h e = absurd (cc e)
taken (k ∷ ls) zero l h e = let same : k ≡ l = cc e in
    subst (λ (x : Transition ℕ ℕ). HasLeaf x.assignments (tree_of_transitions (k ∷ ls))) same (here k.assignments k.guard k.target (tree_of_transitions ls))
taken (k ∷ []) (suc j) l h e = absurd (cc e)
taken (k ∷ i ∷ ls) (suc j) l h e =
    later l.assignments k.guard (Leaf k.assignments k.target) (tree_of_transitions (i ∷ ls)) (and_first (not (is_open k)) (ends_open (i ∷ ls)) h)
    (taken (i ∷ ls) j l (and_second (not (is_open k)) (ends_open (i ∷ ls)) h) e)

-- a branch by its number
pub record IsTakenBy (ls : List (Transition ℕ ℕ)) (l : Transition ℕ ℕ) : Type 0 where
  pub branch : ℕ
  pub numbered : branch < length (branches_of ls)
  pub same : (slice_index_or (branches_of ls) branch no_branch).assignments ≡ l.assignments

at_place : (bs : List Branch) (k : ℕ) (b : Branch) → slice_get bs k ≡ Some b → slice_index_or bs k no_branch ≡ b
at_place [] k b h = absurd (cc h)
at_place (c ∷ bs) zero b h = cc h
at_place (c ∷ bs) (suc k) b h = at_place bs k b h

pub taken_by : (ls : List (Transition ℕ ℕ)) (j : ℕ) (l : Transition ℕ ℕ) → ends_open ls ≡ true → slice_get ls j ≡ Some l → IsTakenBy ls l
taken_by ls j l h e =
    let x = leaf_of l.assignments (tree_of_transitions ls) [] (taken ls j l h e) in
    record {
      branch = x.place;
      numbered = slice_get_within (branches_of ls) x.place x.branch x.there;
      same = ap (λ (b : Branch). b.assignments) (at_place (branches_of ls) x.place x.branch x.there) ∙ x.same;
    }
