-- Literals and branches tried in order, as a loop goes over them.
use Rattle.std.proofs.Common.{◌≡◌, ℕ, true, false, cond, List, [], ◌∷◌, ◌++◌, sym, ◌∙◌, ap, subst}
use Rattle.std.specs.Prelude.{◌&&◌, Some}
use Rattle.fs_model.specs.Expressions.{Literal}
use Rattle.fs_model.specs.Stores.{Store}
use Rattle.fs_model.specs.Meaning.{literal_holds}
use Rattle.fs_model.specs.Touched.{AllInRange}
use Rattle.fs_model.specs.Trees.{Branch, literals_hold}
use Rattle.fs_stores.specs.Reads.{touched_by_literal, touched_by_way, touched_by_branches, taken_branch}
use Rattle.fs_stores.proofs.Ways.{both_parts, front_part, back_part}

-- one literal in front of others
module _ (l : Literal ℕ) (rest ls : List (Literal ℕ)) (s : Store) (parts : ls ≡ l ∷ rest) where
  pub way_in_front : AllInRange (touched_by_way ls s) → AllInRange (touched_by_literal l s)
  way_in_front p = front_part _ _ (subst (λ k. AllInRange (touched_by_way k s)) parts p)

  pub way_there : literal_holds l s ≡ true → AllInRange (touched_by_literal l s) → AllInRange (touched_by_way rest s) → AllInRange (touched_by_way ls s)
  way_there h a b = subst (λ k. AllInRange (touched_by_way k s)) (sym parts)
      (subst (λ c. AllInRange (touched_by_literal l s ++ cond c (touched_by_way rest s) [])) (sym h) (both_parts _ _ a b))

  pub way_back : literal_holds l s ≡ true → AllInRange (touched_by_way ls s) → AllInRange (touched_by_way rest s)
  way_back h p = back_part (touched_by_literal l s) _
      (subst (λ c. AllInRange (touched_by_literal l s ++ cond c (touched_by_way rest s) [])) h (subst (λ k. AllInRange (touched_by_way k s)) parts p))

  pub way_ends : literal_holds l s ≡ false → AllInRange (touched_by_literal l s) → AllInRange (touched_by_way ls s)
  way_ends h a = subst (λ k. AllInRange (touched_by_way k s)) (sym parts)
      (subst (λ c. AllInRange (touched_by_literal l s ++ cond c (touched_by_way rest s) [])) (sym h) (both_parts _ [] a tt))

  pub hold_more : literal_holds l s ≡ true → literals_hold ls s ≡ literals_hold rest s
  hold_more h = ap (λ k. literals_hold k s) parts ∙ ap (λ b. b && literals_hold rest s) h

  pub hold_not : literal_holds l s ≡ false → literals_hold ls s ≡ false
  hold_not h = ap (λ k. literals_hold k s) parts ∙ ap (λ b. b && literals_hold rest s) h

-- one branch in front of others
module _ (b : Branch) (rest bs : List Branch) (s : Store) (parts : bs ≡ b ∷ rest) where
  pub branch_in_front : AllInRange (touched_by_branches bs s) → AllInRange (touched_by_way b.literals s)
  branch_in_front p = front_part _ _ (subst (λ k. AllInRange (touched_by_branches k s)) parts p)

  pub branch_there : literals_hold b.literals s ≡ false → AllInRange (touched_by_way b.literals s) → AllInRange (touched_by_branches rest s)
      → AllInRange (touched_by_branches bs s)
  branch_there h p q = subst (λ k. AllInRange (touched_by_branches k s)) (sym parts)
      (subst (λ c. AllInRange (touched_by_way b.literals s ++ cond c [] (touched_by_branches rest s))) (sym h) (both_parts _ _ p q))

  pub branch_back : literals_hold b.literals s ≡ false → AllInRange (touched_by_branches bs s) → AllInRange (touched_by_branches rest s)
  branch_back h p = back_part (touched_by_way b.literals s) _
      (subst (λ c. AllInRange (touched_by_way b.literals s ++ cond c [] (touched_by_branches rest s))) h
      (subst (λ k. AllInRange (touched_by_branches k s)) parts p))

  pub branch_ends : literals_hold b.literals s ≡ true → AllInRange (touched_by_way b.literals s) → AllInRange (touched_by_branches bs s)
  branch_ends h p = subst (λ k. AllInRange (touched_by_branches k s)) (sym parts)
      (subst (λ c. AllInRange (touched_by_way b.literals s ++ cond c [] (touched_by_branches rest s))) (sym h) (both_parts _ [] p tt))

  pub open_more : literals_hold b.literals s ≡ false → taken_branch bs s ≡ taken_branch rest s
  open_more h = ap (λ k. taken_branch k s) parts ∙ ap (λ c. cond c (Some b) (taken_branch rest s)) h

  pub open_here : literals_hold b.literals s ≡ true → taken_branch bs s ≡ Some b
  open_here h = ap (λ k. taken_branch k s) parts ∙ ap (λ c. cond c (Some b) (taken_branch rest s)) h
