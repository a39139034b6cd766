-- In each store one branch is taken.
use Rattle.std.proofs.Common.{◌≡◌, ℕ, Bool, true, false, cond, List, [], ◌∷◌, refl, ◌∙◌, ap}
use Rattle.std.specs.Prelude.{not, is_some, Option, Some, None, option_map, map, filter}
use Rattle.std.specs.Option.{option_to_list}
use Rattle.fs_model.proofs.Booleans.{and_second}
use Rattle.fs_model.specs.Expressions.{Guard, Transition}
use Rattle.fs_model.specs.Stores.{Store}
use Rattle.fs_model.specs.Meaning.{condition_holds, transition_taken}
use Rattle.fs_model.specs.Trees.{Branch, branches_of, Effect}
use Rattle.fs_model.proofs.Leaves.{one_leaf_open}
use Rattle.fs_model.specs.SoundMachines.{ends_open, is_open}
use Rattle.fs_ast.specs.OpenBranches.{all_hold, TakesOneBranch}

abbrev effect_of : Transition ℕ ℕ → Effect
effect_of l = (l.assignments, l.target)

abbrev effect_at : Branch → Effect
effect_at b = (b.assignments, b.target)

-- where the last transition has no guard, one is taken
always_taken : (g : Option (Guard ℕ)) (s : Store) → not (is_some g) ≡ true → condition_holds g s ≡ true
always_taken None s e = refl
always_taken (Some g) s e = absurd (cc)

some_cond : {A : Type 0} (b : Bool) (x : A) (o : Option A) → (y : A) × (o ≡ Some y) → (z : A) × (cond b (Some x) o ≡ Some z)
some_cond true x o h = (x, refl)
some_cond false x o h = h

one_taken : (ls : List (Transition ℕ ℕ)) (s : Store) → ends_open ls ≡ true → (l : Transition ℕ ℕ) × (transition_taken ls s ≡ Some l)
one_taken [] s e = absurd (cc)
one_taken (l ∷ []) s e = (l, ap (λ b. cond b (Some l) None) (always_taken l.guard s e))
one_taken (l ∷ k ∷ ls) s e = some_cond (condition_holds l.guard s) l (transition_taken (k ∷ ls) s)
    (one_taken (k ∷ ls) s (and_second (not (is_open l)) (ends_open (k ∷ ls)) e))

only_one : (bs : List Branch) (o : Effect) → map effect_at bs ≡ o ∷ [] → (b : Branch) × ((bs ≡ b ∷ []) × (effect_at b ≡ o))
only_one [] o e = absurd (cc)
only_one (b ∷ []) o e = (b, (refl, cc))
only_one (b ∷ c ∷ bs) o e = absurd (cc)

pub takes_one : (ls : List (Transition ℕ ℕ)) (s : Store) → ends_open ls ≡ true → TakesOneBranch ls s
takes_one ls s e =
    let t = one_taken ls s e in
    let o = only_one (filter (λ b. all_hold b.literals s) (branches_of ls)) (effect_of t.0)
    (one_leaf_open ls s ∙ ap (λ x. option_to_list (option_map effect_of x)) t.1) in
    record { transition = t.0; taken = t.1; branch = o.0; one = o.1.0; assignments = ap (λ x. x.0) o.1.1; target = ap (λ x. x.1) o.1.1 }
