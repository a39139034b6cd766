-- In each store exactly one leaf of a tree is open.
use Rattle.std.proofs.Common.{◌≡◌, ℕ, List, [], ◌∷◌, ◌++◌, refl, ◌∙◌, ap, ap₂, append-nil, arith}
use Rattle.std.specs.Prelude.{Bool, true, false, not, ◌&&◌, cond, Option, Some, None, option_map, ℤ}
use Rattle.std.specs.Option.{option_to_list}
use Rattle.std.proofs.lemmas.List.Folds.{list_all-append}
use Rattle.fs_model.specs.declared.parts.Rel.{Rel}
use Rattle.fs_model.specs.declared.parts.Rel.TheVariants.{Eq, Ne, Lt, Le, Gt, Ge}
use Rattle.fs_model.specs.Expressions.{Literal, Guard, Test, Not, And, Or, Transition}
use Rattle.fs_model.specs.Stores.{Store}
use Rattle.fs_model.specs.Meaning.{value, relates, literal_holds, holds, condition_holds, transition_taken}
use Rattle.fs_model.specs.Trees.{Tree, Empty, Leaf, Node, Branch, literals_hold, Effect, tree_of_guard, tree_of_condition, tree_of_transitions, opposite}
use Rattle.fs_model.specs.Trees.{negated_literal, leaves, branches_of, effects_open, effect_taken}

pub opposite_relates : (r : Rel) (a b : ℤ) → relates (opposite r) a b ≡ not (relates r a b)
opposite_relates Eq a b = refl
opposite_relates Ne a b = grind arith
opposite_relates Lt a b = refl
opposite_relates Le a b = grind arith
opposite_relates Gt a b = refl
opposite_relates Ge a b = grind arith

-- a literal or its opposite holds, and not both
pub opposite_holds : (l : Literal ℕ) (s : Store) → literal_holds (negated_literal l) s ≡ not (literal_holds l s)
opposite_holds l s = opposite_relates l.relation (value l.left s) (value l.right s)

-- what is done at the leaf that a store comes to
abbrev pub reached : Tree → Store → Option Effect
reached Empty s = None
reached (Leaf assignments target) s = Some (assignments, target)
reached (Node l y n) s = cond (literal_holds l s) (reached y s) (reached n s)

reached-guard : (g : Guard ℕ) (y n : Tree) (s : Store) → reached (tree_of_guard g y n) s ≡ cond (holds g s) (reached y s) (reached n s)
reached-guard (Test l) y n s = refl
reached-guard (Not g) y n s = grind (arith, reached-guard g n y s)
reached-guard (And a b) y n s = grind (arith, reached-guard a (tree_of_guard b y n) n s, reached-guard b y n s)
reached-guard (Or a b) y n s = grind (arith, reached-guard a y (tree_of_guard b y n) s, reached-guard b y n s)

reached-condition : (g : Option (Guard ℕ)) (y n : Tree) (s : Store)
    → reached (tree_of_condition g y n) s ≡ cond (condition_holds g s) (reached y s) (reached n s)
reached-condition None y n s = refl
reached-condition (Some g) y n s = reached-guard g y n s

effect_where : (b : Bool) (l : Transition ℕ ℕ) (o : Option (Transition ℕ ℕ))
    → cond {A = Option Effect} b (Some (l.assignments, l.target)) (option_map (λ (k : Transition ℕ ℕ). (k.assignments, k.target)) o)
    ≡ option_map (λ (k : Transition ℕ ℕ). (k.assignments, k.target)) (cond b (Some l) o)
effect_where true l o = refl
effect_where false l o = refl

reached-lines : (ls : List (Transition ℕ ℕ)) (s : Store) → reached (tree_of_transitions ls) s ≡ effect_taken ls s
reached-lines [] s = refl
reached-lines (l ∷ ls) s =
    reached-condition l.guard (Leaf l.assignments l.target) (tree_of_transitions ls) s
    ∙ ap (λ (o : Option Effect). cond {A = Option Effect} (condition_holds l.guard s) (Some (l.assignments, l.target)) o) (reached-lines ls s)
    ∙ effect_where (condition_holds l.guard s) l (transition_taken ls s)

effects_open-append : (a b : List Branch) (s : Store) → effects_open (a ++ b) s ≡ effects_open a s ++ effects_open b s
effects_open-append [] b s = refl
effects_open-append (w ∷ a) b s = grind (arith, effects_open-append a b s)

joined : (p h l r : Bool) (a b : Option Effect) → l ≡ (p && (h && true)) → r ≡ (p && (not h && true))
    → cond l (option_to_list a) [] ++ cond r (option_to_list b) [] ≡ cond p (option_to_list (cond h a b)) []
joined p h l r a b e f = grind (arith, e, f, append-nil {A = Effect})

-- where the way so far is open, the leaves below give the one that the store comes to
below : (t : Tree) (way : List (Literal ℕ)) (s : Store) → effects_open (leaves t way) s ≡ cond (literals_hold way s) (option_to_list (reached t s)) []
below Empty way s = grind arith
below (Leaf assignments target) way s = grind arith
below (Node l y n) way s =
    effects_open-append (leaves y (way ++ l ∷ [])) (leaves n (way ++ negated_literal l ∷ [])) s
    ∙ ap₂ (λ u v. u ++ v) (below y (way ++ l ∷ []) s) (below n (way ++ negated_literal l ∷ []) s)
    ∙ joined (literals_hold way s) (literal_holds l s) _ _ (reached y s) (reached n s) (list_all-append (λ k. literal_holds k s) way (l ∷ []))
    (list_all-append (λ k. literal_holds k s) way (negated_literal l ∷ []) ∙ ap (λ z. literals_hold way s && (z && true)) (opposite_holds l s))

pub one_leaf_open : (ls : List (Transition ℕ ℕ)) (s : Store) → effects_open (branches_of ls) s ≡ option_to_list (effect_taken ls s)
one_leaf_open ls s = below (tree_of_transitions ls) [] s ∙ ap option_to_list (reached-lines ls s)
