-- Expressions, trees and branches over other numbers of variables.
use Rattle.std.proofs.Common.{◌≡◌, ℕ, List, [], ◌∷◌, ◌++◌, map, ap, ap₂, sym, refl, ◌∙◌, arith, Option, Some, None, Bool, true, ◌+ℤ◌, ◌-ℤ◌, ◌*ℤ◌, neg_ℤ, ℤ}
use Rattle.std.specs.Prelude.{◌==◌, option_map}
use Rattle.std.proofs.lemmas.List.Folds.{list_any-append}
use Rattle.std.proofs.lemmas.Bool.{or_left, or_right}
use Rattle.fs_model.specs.Division.{quotient, remainder}
use Rattle.fs_model.specs.Expressions.{Expression, Number, Variable, Read, Sum, Difference, Product, Quotient, Remainder, Negative, Literal, Guard, Test, Not}
use Rattle.fs_model.specs.Expressions.{And, Or}
use Rattle.fs_model.specs.Expressions.{Transition}
use Rattle.fs_model.specs.Stores.{Store}
use Rattle.fs_model.specs.Meaning.{value, relates, literal_holds}
use Rattle.fs_model.specs.Trees.{Tree, Empty, Leaf, Node, Branch, tree_of_guard, tree_of_condition, tree_of_transitions, leaves, branches_of, negated_literal}
use Rattle.fs_model.specs.SoundMachines.{scalars_in, arrays_in}
use Rattle.fs_model.specs.SoundMachines.{occurs}
use Rattle.fs_model.specs.PartFolds.{scalars, uses_in_literal}
use Rattle.fs_model.specs.Renamed.{expression_over, literal_over, guard_over, assignment_over, transition_over}

-- ---- members
abbrev pub has : List ℕ → ℕ → Bool
has xs x = occurs x xs

abbrev pub read_by_literal : Literal ℕ → List ℕ
read_by_literal l = uses_in_literal scalars l

pub in_front : (xs ys : List ℕ) (x : ℕ) → has xs x ≡ true → has (xs ++ ys) x ≡ true
in_front xs ys x h = list_any-append (λ y. y == x) xs ys ∙ or_left (has xs x) (has ys x) h

pub in_back : (xs ys : List ℕ) (x : ℕ) → has ys x ≡ true → has (xs ++ ys) x ≡ true
in_back xs ys x h = list_any-append (λ y. y == x) xs ys ∙ or_right (has xs x) (has ys x) h

pub first_in : (x : ℕ) (xs : List ℕ) → has (x ∷ xs) x ≡ true
first_in x xs = or_left (x == x) (has xs x) (grind arith)

-- ---- values
module _ (f : ℕ → ℕ) (s t : Store) where
  -- each scalar and each array of a part holds the same
  pub record Same (scalars arrays : List ℕ) : Type 0 where
    pub numbers : (x : ℕ) → has scalars x ≡ true → s.scalar x ≡ t.scalar (f x)
    pub entries : (x : ℕ) → has arrays x ≡ true → s.array x ≡ t.array (f x)

  pub left : (a b c d : List ℕ) → Same (a ++ b) (c ++ d) → Same a c
  left a b c d h = record { numbers = λ x e. h.numbers x (in_front a b x e); entries = λ x e. h.entries x (in_front c d x e) }

  pub right : (a b c d : List ℕ) → Same (a ++ b) (c ++ d) → Same b d
  right a b c d h = record { numbers = λ x e. h.numbers x (in_back a b x e); entries = λ x e. h.entries x (in_back c d x e) }

  module _ (op : ℤ → ℤ → ℤ) (a b : Expression ℕ) (h : Same (scalars_in a ++ scalars_in b) (arrays_in a ++ arrays_in b)) where
    two : (Same (scalars_in a) (arrays_in a) → value a s ≡ value (expression_over f a) t)
        → (Same (scalars_in b) (arrays_in b) → value b s ≡ value (expression_over f b) t)
        → op (value a s) (value b s) ≡ op (value (expression_over f a) t) (value (expression_over f b) t)
    two p q = ap₂ op (p (left (scalars_in a) (scalars_in b) (arrays_in a) (arrays_in b) h))
        (q (right (scalars_in a) (scalars_in b) (arrays_in a) (arrays_in b) h))

  pub value_over : (e : Expression ℕ) → Same (scalars_in e) (arrays_in e) → value e s ≡ value (expression_over f e) t
  value_over (Number n) h = refl
  value_over (Variable x) h = h.numbers x (first_in x [])
  value_over (Read x i) h =
      let e : s.array x ≡ t.array (f x) = h.entries x (first_in x (arrays_in i)) in
      ap (λ (g : ℤ → ℤ). g (value i s)) e
      ∙ ap (t.array (f x)) (value_over i (record { numbers = h.numbers; entries = λ y k. h.entries y (in_back (x ∷ []) (arrays_in i) y k) }))
  value_over (Sum a b) h = two (λ u v. u +ℤ v) a b h (value_over a) (value_over b)
  value_over (Difference a b) h = two (λ u v. u -ℤ v) a b h (value_over a) (value_over b)
  value_over (Product a b) h = two (λ u v. u *ℤ v) a b h (value_over a) (value_over b)
  value_over (Quotient a b) h = two quotient a b h (value_over a) (value_over b)
  value_over (Remainder a b) h = two remainder a b h (value_over a) (value_over b)
  value_over (Negative a) h = ap neg_ℤ (value_over a h)

  pub literal_holds_over : (l : Literal ℕ) → Same (read_by_literal l) (arrays_in l.left ++ arrays_in l.right)
      → literal_holds l s ≡ literal_holds (literal_over f l) t
  literal_holds_over l h = ap₂ (relates l.relation) (value_over l.left (left (scalars_in l.left) (scalars_in l.right) (arrays_in l.left) (arrays_in l.right) h))
      (value_over l.right (right (scalars_in l.left) (scalars_in l.right) (arrays_in l.left) (arrays_in l.right) h))

-- ---- trees and branches
abbrev pub branch_over : (ℕ → ℕ) → Branch → Branch
branch_over f b = record { literals = map (literal_over f) b.literals; assignments = map (assignment_over f) b.assignments; target = b.target }

abbrev tree_over : (ℕ → ℕ) → Tree → Tree
tree_over f Empty = Empty
tree_over f (Leaf assignments target) = Leaf (map (assignment_over f) assignments) target
tree_over f (Node l on_yes on_no) = Node (literal_over f l) (tree_over f on_yes) (tree_over f on_no)

module _ (f : ℕ → ℕ) where
  over_formula : (g : Guard ℕ) (y n : Tree) → tree_of_guard (guard_over f g) (tree_over f y) (tree_over f n) ≡ tree_over f (tree_of_guard g y n)
  over_formula (Test l) y n = refl
  over_formula (Not g) y n = over_formula g n y
  over_formula (And a b) y n = ap (λ (t : Tree). tree_of_guard (guard_over f a) t (tree_over f n)) (over_formula b y n) ∙ over_formula a (tree_of_guard b y n) n
  over_formula (Or a b) y n = ap (λ (t : Tree). tree_of_guard (guard_over f a) (tree_over f y) t) (over_formula b y n) ∙ over_formula a y (tree_of_guard b y n)

  over_line : (g : Option (Guard ℕ)) (y n : Tree) → tree_of_condition (option_map (guard_over f) g) (tree_over f y) (tree_over f n)
      ≡ tree_over f (tree_of_condition g y n)
  over_line None y n = refl
  over_line (Some g) y n = over_formula g y n

  over_lines : (ls : List (Transition ℕ ℕ)) → tree_of_transitions (map (transition_over f (λ q. q)) ls) ≡ tree_over f (tree_of_transitions ls)
  over_lines [] = refl
  over_lines (l ∷ ls) = ap (λ (t : Tree). tree_of_condition (option_map (guard_over f) l.guard) (Leaf (map (assignment_over f) l.assignments) l.target) t)
      (over_lines ls) ∙ over_line l.guard (Leaf l.assignments l.target) (tree_of_transitions ls)

  map_two : (a b : List Branch) → map (branch_over f) (a ++ b) ≡ map (branch_over f) a ++ map (branch_over f) b
  map_two [] b = refl
  map_two (w ∷ a) b = ap (λ (k : List Branch). branch_over f w ∷ k) (map_two a b)

  map_way : (way : List (Literal ℕ)) (l : Literal ℕ) → map (literal_over f) (way ++ l ∷ []) ≡ map (literal_over f) way ++ literal_over f l ∷ []
  map_way [] l = refl
  map_way (w ∷ way) l = ap (λ (k : List (Literal ℕ)). literal_over f w ∷ k) (map_way way l)

  over_leaves : (t : Tree) (way : List (Literal ℕ)) → leaves (tree_over f t) (map (literal_over f) way) ≡ map (branch_over f) (leaves t way)
  over_leaves Empty way = refl
  over_leaves (Leaf assignments target) way = refl
  over_leaves (Node l y n) way =
      ap₂ (λ (a b : List (Literal ℕ)). leaves (tree_over f y) a ++ leaves (tree_over f n) b) (sym (map_way way l)) (sym (map_way way (negated_literal l)))
      ∙ ap₂ (λ (a b : List Branch). a ++ b) (over_leaves y (way ++ l ∷ [])) (over_leaves n (way ++ negated_literal l ∷ []))
      ∙ sym (map_two (leaves y (way ++ l ∷ [])) (leaves n (way ++ negated_literal l ∷ [])))

  pub over_branches : (ls : List (Transition ℕ ℕ)) → branches_of (map (transition_over f (λ q. q)) ls) ≡ map (branch_over f) (branches_of ls)
  over_branches ls = ap (λ (t : Tree). leaves t []) (over_lines ls) ∙ over_leaves (tree_of_transitions ls) []
