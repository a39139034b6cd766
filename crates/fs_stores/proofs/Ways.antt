-- The numbers that are touched where branches are tried in order are those of the way that is taken.
use Rattle.std.proofs.Common.{◌≡◌, ℕ, Bool, true, false, cond, List, [], ◌∷◌, ◌++◌, refl, sym, ◌∙◌, ap, ap₂, subst, append-nil, append_assoc}
use Rattle.std.specs.Prelude.{not, ◌&&◌, ◌||◌, is_none, ℤ, Option, Some, None, filter}
use Rattle.std.proofs.lemmas.List.Folds.{list_all-append}
use Rattle.std.proofs.lemmas.Bool.{and_from}
use Rattle.base_laws.proofs.Booleans.{and_first, and_second}
use Rattle.fs_model.specs.SoundMachines.{ends_open, is_open}
use Rattle.fs_model.specs.Expressions.{Expression, Number, Variable, Read, Sum, Difference, Product, Quotient, Remainder, Negative, Literal, Guard, Test, Not}
use Rattle.fs_model.specs.Expressions.{And, Or}
use Rattle.fs_model.specs.Expressions.{Assignment, Transition}
use Rattle.fs_model.specs.Stores.{Store}
use Rattle.fs_model.specs.Meaning.{literal_holds, holds, condition_holds, transition_taken}
use Rattle.fs_model.specs.Touched.{touched_by_expression, touched_by_guard, touched_by_condition, touched_by_assignments, touched_by_transitions, AllInRange}
use Rattle.fs_model.specs.Trees.{Tree, Empty, Leaf, Node, tree_of_guard, tree_of_condition, tree_of_transitions, negated_literal, Branch, leaves, branches_of}
use Rattle.fs_model.specs.Trees.{literals_hold}
use Rattle.fs_model.proofs.Leaves.{opposite_holds}
use Rattle.fs_ast.specs.OpenBranches.{TakesOneBranch}
use Rattle.fs_stores.specs.Reads.{EachFits, LiteralFits, touched_by_literal, touched_by_way, touched_by_branches, taken_branch, Both}

-- lists of numbers in range

pub both_parts : (a b : List ℤ) → AllInRange a → AllInRange b → AllInRange (a ++ b)
both_parts [] b p q = q
both_parts (z ∷ a) b p q = (p.0, both_parts a b p.1 q)

pub front_part : (a b : List ℤ) → AllInRange (a ++ b) → AllInRange a
front_part [] b p = tt
front_part (z ∷ a) b p = (p.0, front_part a b p.1)

pub back_part : (a b : List ℤ) → AllInRange (a ++ b) → AllInRange b
back_part [] b p = p
back_part (z ∷ a) b p = back_part a b p.1

-- an expression

pub fits_touched : (t : Expression ℕ) (s : Store) → EachFits t s → AllInRange (touched_by_expression t s)
fits_touched (Number n) s p = (p, tt)
fits_touched (Variable x) s p = (p, tt)
fits_touched (Read x i) s p = (p.1, fits_touched i s p.0)
fits_touched (Sum a b) s p = (p.2, both_parts _ _ (fits_touched a s p.0) (fits_touched b s p.1))
fits_touched (Difference a b) s p = (p.2, both_parts _ _ (fits_touched a s p.0) (fits_touched b s p.1))
fits_touched (Product a b) s p = (p.2, both_parts _ _ (fits_touched a s p.0) (fits_touched b s p.1))
fits_touched (Quotient a b) s p = (p.2, both_parts _ _ (fits_touched a s p.0) (fits_touched b s p.1))
fits_touched (Remainder a b) s p = (p.2, both_parts _ _ (fits_touched a s p.0) (fits_touched b s p.1))
fits_touched (Negative a) s p = (p.1, fits_touched a s p.0)

pub touched_fits : (t : Expression ℕ) (s : Store) → AllInRange (touched_by_expression t s) → EachFits t s
touched_fits (Number n) s p = p.0
touched_fits (Variable x) s p = p.0
touched_fits (Read x i) s p = (touched_fits i s p.1, p.0)
touched_fits (Sum a b) s p = (touched_fits a s (front_part _ _ p.1), touched_fits b s (back_part (touched_by_expression a s) _ p.1), p.0)
touched_fits (Difference a b) s p = (touched_fits a s (front_part _ _ p.1), touched_fits b s (back_part (touched_by_expression a s) _ p.1), p.0)
touched_fits (Product a b) s p = (touched_fits a s (front_part _ _ p.1), touched_fits b s (back_part (touched_by_expression a s) _ p.1), p.0)
touched_fits (Quotient a b) s p = (touched_fits a s (front_part _ _ p.1), touched_fits b s (back_part (touched_by_expression a s) _ p.1), p.0)
touched_fits (Remainder a b) s p = (touched_fits a s (front_part _ _ p.1), touched_fits b s (back_part (touched_by_expression a s) _ p.1), p.0)
touched_fits (Negative a) s p = (touched_fits a s p.1, p.0)

pub literal_fits : (l : Literal ℕ) (s : Store) → AllInRange (touched_by_literal l s) → LiteralFits l s
literal_fits l s p = (touched_fits l.left s (front_part _ _ p), touched_fits l.right s (back_part (touched_by_expression l.left s) _ p))

pub fits_literal : (l : Literal ℕ) (s : Store) → LiteralFits l s → AllInRange (touched_by_literal l s)
fits_literal l s p = both_parts _ _ (fits_touched l.left s p.0) (fits_touched l.right s p.1)

-- a tree

-- the numbers that are looked at on the way down a tree
abbrev pub touched_by_tree : Tree → Store → List ℤ
touched_by_tree Empty s = []
touched_by_tree (Leaf assignments target) s = []
touched_by_tree (Node l y n) s = touched_by_literal l s ++ cond (literal_holds l s) (touched_by_tree y s) (touched_by_tree n s)

-- whether each way down ends at a leaf
abbrev pub is_full : Tree → Bool
is_full Empty = false
is_full (Leaf assignments target) = true
is_full (Node l y n) = is_full y && is_full n

full-guard : (g : Guard ℕ) (y n : Tree) → is_full y ≡ true → is_full n ≡ true → is_full (tree_of_guard g y n) ≡ true
full-guard (Test l) y n p q = and_from _ _ p q
full-guard (Not c) y n p q = full-guard c n y q p
full-guard (And c d) y n p q = full-guard c _ n (full-guard d y n p q) q
full-guard (Or c d) y n p q = full-guard c y _ p (full-guard d y n p q)

full-condition : (g : Option (Guard ℕ)) (y n : Tree) → is_full y ≡ true → is_full n ≡ true → is_full (tree_of_condition g y n) ≡ true
full-condition None y n p q = p
full-condition (Some c) y n p q = full-guard c y n p q

full-open : (g : Option (Guard ℕ)) (y n : Tree) → is_none g ≡ true → is_full y ≡ true → is_full (tree_of_condition g y n) ≡ true
full-open None y n e p = p
full-open (Some c) y n e p = absurd (cc)

pub full-lines : (ls : List (Transition ℕ ℕ)) → ends_open ls ≡ true → is_full (tree_of_transitions ls) ≡ true
full-lines [] e = absurd (cc)
full-lines (l ∷ []) e = full-open l.guard (Leaf l.assignments l.target) Empty e refl
full-lines (l ∷ k ∷ ls) e = full-condition l.guard (Leaf l.assignments l.target)
    (tree_of_transitions (k ∷ ls)) refl (full-lines (k ∷ ls) (and_second (not (is_open l)) (ends_open (k ∷ ls)) e))

and_then : (a b : Bool) (u v w x : List ℤ) → (u ++ cond a v []) ++ cond (a && b) w x ≡ u ++ cond a (v ++ cond b w x) x
and_then true b u v w x = append_assoc u v (cond b w x)
and_then false b u v w x = ap (λ z. z ++ x) (append-nil u)

or_then : (a b : Bool) (u v w x : List ℤ) → (u ++ cond a [] v) ++ cond (a || b) w x ≡ u ++ cond a w (v ++ cond b w x)
or_then true b u v w x = ap (λ z. z ++ w) (append-nil u)
or_then false b u v w x = append_assoc u v (cond b w x)

turned : (a : Bool) (w x : List ℤ) → cond (not a) w x ≡ cond a x w
turned true w x = refl
turned false w x = refl

touched-guard : (g : Guard ℕ) (y n : Tree) (s : Store) → touched_by_tree (tree_of_guard g y n) s ≡ touched_by_guard g s
    ++ cond (holds g s) (touched_by_tree y s) (touched_by_tree n s)
touched-guard (Test l) y n s = refl
touched-guard (Not c) y n s = touched-guard c n y s ∙ ap (λ z. touched_by_guard c s ++ z) (sym (turned (holds c s) (touched_by_tree y s) (touched_by_tree n s)))
touched-guard (And c d) y n s =
    touched-guard c (tree_of_guard d y n) n s
    ∙ ap (λ z. touched_by_guard c s ++ cond (holds c s) z (touched_by_tree n s)) (touched-guard d y n s)
    ∙ sym (and_then (holds c s) (holds d s) (touched_by_guard c s) (touched_by_guard d s) (touched_by_tree y s) (touched_by_tree n s))
touched-guard (Or c d) y n s =
    touched-guard c y (tree_of_guard d y n) s
    ∙ ap (λ z. touched_by_guard c s ++ cond (holds c s) (touched_by_tree y s) z) (touched-guard d y n s)
    ∙ sym (or_then (holds c s) (holds d s) (touched_by_guard c s) (touched_by_guard d s) (touched_by_tree y s) (touched_by_tree n s))

touched-condition : (g : Option (Guard ℕ)) (y n : Tree) (s : Store) → touched_by_tree (tree_of_condition g y n) s ≡ touched_by_condition g s
    ++ cond (condition_holds g s) (touched_by_tree y s) (touched_by_tree n s)
touched-condition None y n s = refl
touched-condition (Some c) y n s = touched-guard c y n s

-- the assignments of the transition taken
abbrev pub assignments_taken : Option (Transition ℕ ℕ) → List (Assignment ℕ)
assignments_taken None = []
assignments_taken (Some l) = l.assignments

line_then : (b : Bool) (l : Transition ℕ ℕ) (o : Option (Transition ℕ ℕ)) (u v : List ℤ) (s : Store)
    → u ++ cond b (touched_by_assignments l.assignments s) (v ++ touched_by_assignments (assignments_taken o) s) ≡ (u ++ cond b [] v)
    ++ touched_by_assignments (assignments_taken (cond b (Some l) o)) s
line_then true l o u v s = ap (λ z. z ++ touched_by_assignments l.assignments s) (sym (append-nil u))
line_then false l o u v s = sym (append_assoc u v (touched_by_assignments (assignments_taken o) s))

-- what a step touches: the numbers on the way down the tree, and those of the assignments
pub touched-lines : (ls : List (Transition ℕ ℕ)) (s : Store) → touched_by_transitions ls s ≡ touched_by_tree (tree_of_transitions ls) s
    ++ touched_by_assignments (assignments_taken (transition_taken ls s)) s
touched-lines [] s = refl
touched-lines (l ∷ ls) s =
    ap (λ z. touched_by_condition l.guard s ++ cond (condition_holds l.guard s) (touched_by_assignments l.assignments s) z) (touched-lines ls s)
    ∙ line_then (condition_holds l.guard s) l (transition_taken ls s) (touched_by_condition l.guard s) (touched_by_tree (tree_of_transitions ls) s) s
    ∙ ap (λ z. z ++ touched_by_assignments (assignments_taken (transition_taken (l ∷ ls) s)) s)
    (sym (touched-condition l.guard (Leaf l.assignments l.target) (tree_of_transitions ls) s))

-- branches in order

all-more : (w : List (Literal ℕ)) (l : Literal ℕ) (s : Store) → literals_hold (w ++ l ∷ []) s ≡ (literals_hold w s && (literal_holds l s && true))
all-more w l s = list_all-append (λ k. literal_holds k s) w (l ∷ [])

way_cond : (h : Bool) (u v w : List ℤ) → u ++ cond h (v ++ w) [] ≡ (u ++ cond h v []) ++ cond h w []
way_cond true u v w = sym (append_assoc u v w)
way_cond false u v w = sym (append-nil (u ++ []))

-- a way that holds so far, and one more literal
way-more : (w : List (Literal ℕ)) (l : Literal ℕ) (s : Store) → literals_hold w s ≡ true
    → touched_by_way (w ++ l ∷ []) s ≡ touched_by_way w s ++ touched_by_literal l s
way-more [] l s e = ap (λ z. touched_by_literal l s ++ z) (cond_nil (literal_holds l s)) ∙ append-nil (touched_by_literal l s)
  where
    cond_nil : (b : Bool) → cond {A = List ℤ} b [] [] ≡ []
    cond_nil true = refl
    cond_nil false = refl
way-more (k ∷ w) l s e =
    let h : literal_holds k s ≡ true = and_first (literal_holds k s) (literals_hold w s) e in
    let ih : touched_by_way (w ++ l ∷ []) s ≡ touched_by_way w s ++ touched_by_literal l s =
    way-more w l s (and_second (literal_holds k s) (literals_hold w s) e) in
    ap (λ b. touched_by_literal k s ++ cond b (touched_by_way (w ++ l ∷ []) s) []) h
    ∙ ap (λ z. touched_by_literal k s ++ z) ih
    ∙ sym (append_assoc (touched_by_literal k s) (touched_by_way w s) (touched_by_literal l s))
    ∙ ap (λ b. (touched_by_literal k s ++ cond b (touched_by_way w s) []) ++ touched_by_literal l s) (sym h)

-- a way on which a literal fails, and more
way-failed : (w v : List (Literal ℕ)) (s : Store) → literals_hold w s ≡ false → touched_by_way (w ++ v) s ≡ touched_by_way w s
way-failed [] v s e = absurd (cc)
way-failed (k ∷ w) v s e = on_first (λ h. way-failed w v s h) (literal_holds k s) refl
  where
    on_first : (literals_hold w s ≡ false → touched_by_way (w ++ v) s ≡ touched_by_way w s) → (b : Bool) → literal_holds k s ≡ b
        → touched_by_way ((k ∷ w) ++ v) s ≡ touched_by_way (k ∷ w) s
    on_first ih true h = ap (λ z. touched_by_literal k s ++ cond (literal_holds k s) z []) (ih (sym (ap (λ b. b && literals_hold w s) h) ∙ e))
    on_first ih false h = ap (λ b. touched_by_literal k s ++ cond b (touched_by_way (w ++ v) s) []) h
        ∙ ap (λ b. touched_by_literal k s ++ cond b (touched_by_way w s) []) (sym h)

-- the branches below a way on which a literal fails are passed
failing : (t : Tree) (w : List (Literal ℕ)) (s : Store) (x : List Branch) → is_full t ≡ true → literals_hold w s ≡ false
    → Both (AllInRange (touched_by_branches (leaves t w ++ x) s)) (AllInRange (touched_by_way w s) × AllInRange (touched_by_branches x s))
failing Empty w s x f e = absurd (cc)
failing (Leaf assignments target) w s x f e = record {
  there = λ p. let q : AllInRange (touched_by_way w s ++ touched_by_branches x s) =
      subst (λ b. AllInRange (touched_by_way w s ++ cond b [] (touched_by_branches x s))) e p in
      (front_part _ _ q, back_part (touched_by_way w s) _ q);
  back = λ p. subst (λ b. AllInRange (touched_by_way w s ++ cond b [] (touched_by_branches x s))) (sym e) (both_parts _ _ p.0 p.1);
}
failing (Node l y n) w s x f e =
    let no : literals_hold (w ++ l ∷ []) s ≡ false = all-more w l s ∙ ap (λ b. b && (literal_holds l s && true)) e in
    let no2 : literals_hold (w ++ negated_literal l ∷ []) s ≡ false = all-more w (negated_literal l) s
    ∙ ap (λ b. b && (literal_holds (negated_literal l) s && true)) e in
    let rest : List Branch = leaves n (w ++ negated_literal l ∷ []) ++ x in
    let on_y = failing y (w ++ l ∷ []) s rest (and_first (is_full y) (is_full n) f) no in
    let on_n = failing n (w ++ negated_literal l ∷ []) s x (and_second (is_full y) (is_full n) f) no2 in
    let same : touched_by_way (w ++ l ∷ []) s ≡ touched_by_way w s = way-failed w (l ∷ []) s e in
    let same2 : touched_by_way (w ++ negated_literal l ∷ []) s ≡ touched_by_way w s = way-failed w (negated_literal l ∷ []) s e in
    let joined : (leaves y (w ++ l ∷ []) ++ leaves n (w ++ negated_literal l ∷ [])) ++ x ≡ leaves y (w ++ l ∷ []) ++ rest =
    append_assoc (leaves y (w ++ l ∷ [])) (leaves n (w ++ negated_literal l ∷ [])) x in
    record {
      there = λ p. let a = on_y.there (subst (λ bs. AllInRange (touched_by_branches bs s)) joined p) in (subst AllInRange same a.0, (on_n.there a.1).1);
      back = λ p. subst (λ bs. AllInRange (touched_by_branches bs s)) (sym joined)
          (on_y.back (subst AllInRange (sym same) p.0, on_n.back (subst AllInRange (sym same2) p.0, p.1)));
    }

-- below a way that holds, the numbers looked at are those on the way down the tree
pub through : (t : Tree) (w : List (Literal ℕ)) (s : Store) (x : List Branch) → is_full t ≡ true → literals_hold w s ≡ true
    → Both (AllInRange (touched_by_branches (leaves t w ++ x) s)) (AllInRange (touched_by_way w s) × AllInRange (touched_by_tree t s))
through Empty w s x f e = absurd (cc)
through (Leaf assignments target) w s x f e = record {
  there = λ p. (front_part _ _ p, tt);
  back = λ p. subst (λ b. AllInRange (touched_by_way w s ++ cond b [] (touched_by_branches x s))) (sym e) (both_parts (touched_by_way w s) [] p.0 tt);
}
through (Node l y n) w s x f e =
    on_first (λ h. through y (w ++ l ∷ []) s rest (and_first (is_full y) (is_full n) f) h)
    (λ h. through n (w ++ negated_literal l ∷ []) s x (and_second (is_full y) (is_full n) f) h) (literal_holds l s) refl
  where
    rest : List Branch
    rest = leaves n (w ++ negated_literal l ∷ []) ++ x

    joined : (leaves y (w ++ l ∷ []) ++ leaves n (w ++ negated_literal l ∷ [])) ++ x ≡ leaves y (w ++ l ∷ []) ++ rest
    joined = append_assoc (leaves y (w ++ l ∷ [])) (leaves n (w ++ negated_literal l ∷ [])) x

    more : touched_by_way (w ++ l ∷ []) s ≡ touched_by_way w s ++ touched_by_literal l s
    more = way-more w l s e

    more2 : touched_by_way (w ++ negated_literal l ∷ []) s ≡ touched_by_way w s ++ touched_by_literal l s
    more2 = way-more w (negated_literal l) s e

    Below : Bool → Type 0
    Below b = AllInRange (touched_by_literal l s ++ cond b (touched_by_tree y s) (touched_by_tree n s))

    OnYes : Type 0
    OnYes = literals_hold (w ++ l ∷ []) s ≡ true
        → Both (AllInRange (touched_by_branches (leaves y (w ++ l ∷ []) ++ rest) s))
        (AllInRange (touched_by_way (w ++ l ∷ []) s) × AllInRange (touched_by_tree y s))

    OnNo : Type 0
    OnNo = literals_hold (w ++ negated_literal l ∷ []) s ≡ true
        → Both (AllInRange (touched_by_branches rest s)) (AllInRange (touched_by_way (w ++ negated_literal l ∷ []) s) × AllInRange (touched_by_tree n s))

    on_first : OnYes → OnNo → (b : Bool) → literal_holds l s ≡ b
        → Both (AllInRange (touched_by_branches (leaves (Node l y n) w ++ x) s)) (AllInRange (touched_by_way w s) × AllInRange (touched_by_tree (Node l y n) s))
    on_first yes_below no_below true h =
        let all : literals_hold (w ++ l ∷ []) s ≡ true = all-more w l s ∙ ap₂ (λ (a b : Bool). a && (b && true)) e h in
        let on_y = yes_below all in
        record {
          there = λ p. let a = on_y.there (subst (λ bs. AllInRange (touched_by_branches bs s)) joined p) in
              let q : AllInRange (touched_by_way w s ++ touched_by_literal l s) = subst AllInRange more a.0 in
              (front_part _ _ q, subst Below (sym h) (both_parts _ _ (back_part (touched_by_way w s) _ q) a.1));
          back = λ p. let r : AllInRange (touched_by_literal l s ++ touched_by_tree y s) = subst Below h p.1 in
              subst (λ bs. AllInRange (touched_by_branches bs s)) (sym joined)
              (on_y.back (subst AllInRange (sym more) (both_parts _ _ p.0 (front_part _ _ r)), back_part (touched_by_literal l s) _ r));
        }
    on_first yes_below no_below false h =
        let no : literals_hold (w ++ l ∷ []) s ≡ false = all-more w l s ∙ ap₂ (λ (a b : Bool). a && (b && true)) e h in
        let all : literals_hold (w ++ negated_literal l ∷ []) s ≡ true = all-more w (negated_literal l) s
        ∙ ap₂ (λ (a b : Bool). a && (b && true)) e (opposite_holds l s ∙ ap not h) in
        let on_y = failing y (w ++ l ∷ []) s rest (and_first (is_full y) (is_full n) f) no in
        let on_n = no_below all in
        record {
          there = λ p. let a = on_y.there (subst (λ bs. AllInRange (touched_by_branches bs s)) joined p) in
              let c = on_n.there a.1 in
              let q : AllInRange (touched_by_way w s ++ touched_by_literal l s) = subst AllInRange more a.0 in
              (front_part _ _ q, subst Below (sym h) (both_parts _ _ (back_part (touched_by_way w s) _ q) c.1));
          back = λ p. let r : AllInRange (touched_by_literal l s ++ touched_by_tree n s) = subst Below h p.1 in
              let q : AllInRange (touched_by_way w s ++ touched_by_literal l s) = both_parts _ _ p.0 (front_part _ _ r) in
              subst (λ bs. AllInRange (touched_by_branches bs s)) (sym joined)
              (on_y.back (subst AllInRange (sym more) q, on_n.back (subst AllInRange (sym more2) q, back_part (touched_by_literal l s) _ r)));
        }

-- the first open branch is the one that is open

abbrev head_of : List Branch → Option Branch
head_of [] = None
head_of (b ∷ bs) = Some b

head_cond : (h : Bool) (b : Branch) (bs : List Branch) → head_of (cond h (b ∷ bs) bs) ≡ cond h (Some b) (head_of bs)
head_cond true b bs = refl
head_cond false b bs = refl

first_filtered : (bs : List Branch) (s : Store) → head_of (filter (λ b. literals_hold b.literals s) bs) ≡ taken_branch bs s
first_filtered [] s = refl
first_filtered (b ∷ bs) s = head_cond (literals_hold b.literals s) b (filter (λ c. literals_hold c.literals s) bs)
    ∙ ap (λ o. cond (literals_hold b.literals s) (Some b) o) (first_filtered bs s)

pub first_taken : (ls : List (Transition ℕ ℕ)) (s : Store) (one : TakesOneBranch ls s) → taken_branch (branches_of ls) s ≡ Some one.branch
first_taken ls s one = sym (first_filtered (branches_of ls) s) ∙ ap head_of one.one

nil_right : (bs : List Branch) → bs ++ [] ≡ bs
nil_right bs = append-nil bs

-- what a step touches are the numbers of the branches that are tried, and of the assignments of the one that is open
pub touched_taken : (ls : List (Transition ℕ ℕ)) (s : Store) → ends_open ls ≡ true → (one : TakesOneBranch ls s)
    → Both (AllInRange (touched_by_transitions ls s))
    (AllInRange (touched_by_branches (branches_of ls) s) × AllInRange (touched_by_assignments one.branch.assignments s))
touched_taken ls s e one =
    let t : Both (AllInRange (touched_by_branches (branches_of ls ++ []) s))
    (AllInRange (touched_by_way [] s) × AllInRange (touched_by_tree (tree_of_transitions ls) s)) =
    through (tree_of_transitions ls) [] s [] (full-lines ls e) refl in
    let acts : touched_by_assignments (assignments_taken (transition_taken ls s)) s ≡ touched_by_assignments one.branch.assignments s =
    ap (λ o. touched_by_assignments (assignments_taken o) s) one.taken ∙ ap (λ a. touched_by_assignments a s) (sym one.assignments) in
    let whole : touched_by_transitions ls s ≡ touched_by_tree (tree_of_transitions ls) s ++ touched_by_assignments one.branch.assignments s = touched-lines ls s
    ∙ ap (λ z. touched_by_tree (tree_of_transitions ls) s ++ z) acts in
    record {
      there = λ p. let q = subst AllInRange whole p in (
        subst (λ bs. AllInRange (touched_by_branches bs s)) (nil_right (branches_of ls)) (t.back (tt, front_part _ _ q)),
        back_part (touched_by_tree (tree_of_transitions ls) s) _ q,
      );
      back = λ p. subst AllInRange (sym whole)
          (both_parts _ _ (t.there (subst (λ bs. AllInRange (touched_by_branches bs s)) (sym (nil_right (branches_of ls))) p.0)).1 p.1);
    }
