-- Two branches of a state part at a literal and its negation.
use Rattle.std.proofs.Common.{◌≡◌, ℕ, zero, suc, ◌<◌, arith, List, [], ◌∷◌, ◌++◌, Some, refl, ap, subst, ◌∙◌}
use Rattle.std.specs.Prelude.{slice_get}
use Rattle.fs_model.specs.Expressions.{Literal, Transition}
use Rattle.fs_model.specs.Trees.{Tree, Empty, Leaf, Node, Branch, negated_literal, leaves, tree_of_transitions, branches_of}

-- behind the same literals the earlier branch has a literal, and the later one its negation
pub record Part (x y : Branch) : Type 0 where
  pub way : List (Literal ℕ)
  pub literal : Literal ℕ
  pub mine : List (Literal ℕ)
  pub theirs : List (Literal ℕ)
  pub first : x.literals ≡ way ++ literal ∷ mine
  pub second : y.literals ≡ way ++ negated_literal literal ∷ theirs

record Begin (way : List (Literal ℕ)) (b : Branch) : Type 0 where
  rest : List (Literal ℕ)
  whole : b.literals ≡ way ++ rest

abbrev Begins : List (Literal ℕ) → List Branch → Type 0
Begins way [] = Unit {0}
Begins way (b ∷ bs) = Begin way b × Begins way bs

abbrev PartsFrom : Branch → List Branch → Type 0
PartsFrom x [] = Unit {0}
PartsFrom x (y ∷ ys) = Part x y × PartsFrom x ys

abbrev AllPart : List Branch → Type 0
AllPart [] = Unit {0}
AllPart (x ∷ xs) = PartsFrom x xs × AllPart xs

append_behind_last : (way : List (Literal ℕ)) (l : Literal ℕ) (rest : List (Literal ℕ)) → (way ++ l ∷ []) ++ rest ≡ way ++ l ∷ rest
append_behind_last [] l rest = refl
append_behind_last (x ∷ way) l rest = ap (λ z. x ∷ z) (append_behind_last way l rest)

shorter : (way : List (Literal ℕ)) (l : Literal ℕ) (bs : List Branch) → Begins (way ++ l ∷ []) bs → Begins way bs
shorter way l [] h = tt
shorter way l (b ∷ bs) (h, hs) = (record { rest = l ∷ h.rest; whole = h.whole ∙ append_behind_last way l h.rest }, shorter way l bs hs)

begins_both : (way : List (Literal ℕ)) (xs ys : List Branch) → Begins way xs → Begins way ys → Begins way (xs ++ ys)
begins_both way [] ys h g = g
begins_both way (x ∷ xs) ys (h, hs) g = (h, begins_both way xs ys hs g)

no_more : (way : List (Literal ℕ)) → way ≡ way ++ []
no_more [] = refl
no_more (x ∷ way) = ap (λ z. x ∷ z) (no_more way)

leaves_begin : (t : Tree) (way : List (Literal ℕ)) → Begins way (leaves t way)
leaves_begin Empty way = tt
leaves_begin (Leaf assignments target) way = (record { rest = []; whole = no_more way }, tt)
leaves_begin (Node l y n) way =
    begins_both way (leaves y (way ++ l ∷ [])) (leaves n (way ++ negated_literal l ∷ []))
    (shorter way l (leaves y (way ++ l ∷ [])) (leaves_begin y (way ++ l ∷ [])))
    (shorter way (negated_literal l) (leaves n (way ++ negated_literal l ∷ [])) (leaves_begin n (way ++ negated_literal l ∷ [])))

from_both : (x : Branch) (xs ys : List Branch) → PartsFrom x xs → PartsFrom x ys → PartsFrom x (xs ++ ys)
from_both x [] ys h g = g
from_both x (y ∷ xs) ys (h, hs) g = (h, from_both x xs ys hs g)

across : (way : List (Literal ℕ)) (l : Literal ℕ) (x : Branch) (ys : List Branch) → Begin (way ++ l ∷ []) x → Begins (way ++ negated_literal l ∷ []) ys
    → PartsFrom x ys
across way l x [] h g = tt
across way l x (y ∷ ys) h (g, gs) = (
  record {
    way = way;
    literal = l;
    mine = h.rest;
    theirs = g.rest;
    first = h.whole ∙ append_behind_last way l h.rest;
    second = g.whole ∙ append_behind_last way (negated_literal l) g.rest;
  },
  across way l x ys h gs,
)

all_both : (way : List (Literal ℕ)) (l : Literal ℕ) (xs ys : List Branch) → Begins (way ++ l ∷ []) xs → Begins (way ++ negated_literal l ∷ []) ys → AllPart xs
    → AllPart ys → AllPart (xs ++ ys)
all_both way l [] ys b c h g = g
all_both way l (x ∷ xs) ys (b, bs) c (h, hs) g = (from_both x xs ys h (across way l x ys b c), all_both way l xs ys bs c hs g)

leaves_part : (t : Tree) (way : List (Literal ℕ)) → AllPart (leaves t way)
leaves_part Empty way = tt
leaves_part (Leaf assignments target) way = (tt, tt)
leaves_part (Node l y n) way =
    all_both way l (leaves y (way ++ l ∷ [])) (leaves n (way ++ negated_literal l ∷ [])) (leaves_begin y (way ++ l ∷ []))
    (leaves_begin n (way ++ negated_literal l ∷ [])) (leaves_part y (way ++ l ∷ [])) (leaves_part n (way ++ negated_literal l ∷ []))

from_at : (x : Branch) (ys : List Branch) → PartsFrom x ys → (j : ℕ) (y : Branch) → slice_get ys j ≡ Some y → Part x y
from_at x [] h j y e = absurd (cc e)
from_at x (z ∷ ys) h zero y e = let same : z ≡ y = cc e in subst (Part x) same h.0
from_at x (z ∷ ys) h (suc j) y e = from_at x ys h.1 j y e

all_at : (xs : List Branch) → AllPart xs → (i j : ℕ) (x y : Branch) → i < j → slice_get xs i ≡ Some x → slice_get xs j ≡ Some y → Part x y
all_at [] h i j x y o e g = absurd (cc e)
all_at (z ∷ xs) h i zero x y o e g = absurd (omega (arith, o))
all_at (z ∷ xs) h zero (suc j) x y o e g = let same : z ≡ x = cc e in subst (λ w. Part w y) same (from_at z xs h.0 j y g)
all_at (z ∷ xs) h (suc i) (suc j) x y o e g = all_at xs h.1 i j x y (omega (arith, o)) e g

pub branches_part : (ls : List (Transition ℕ ℕ)) (i j : ℕ) (x y : Branch) → i < j → slice_get (branches_of ls) i ≡ Some x
    → slice_get (branches_of ls) j ≡ Some y → Part x y
branches_part ls = all_at (branches_of ls) (leaves_part (tree_of_transitions ls) [])
