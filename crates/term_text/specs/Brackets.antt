-- How many brackets are open at once.
use Rattle.std.specs.Prelude.{ℕ, ◌+◌, ◌-◌, ◌==◌, ◌||◌, max, Bool, cond, List, [], ◌∷◌}
use Rattle.term_text.specs.TermTexts.{ListSyntax, EmptyList, BareList, Pushed, TermSyntax, polynomial, array, list, Atom}
use Rattle.term_text.specs.TermTexts.{Monomial, Sum, Polynomial, ArrayTerm, Symbol, Read, Quotient, Remainder, Number, One, Times}
use Rattle.term_text.specs.TermTexts.{Positive, Negative, Plus, Minus, Zero, Of, ZeroArray, Bare, Written}

abbrev pub opens : ℕ → Bool
opens b = b == 40 || b == 91 || b == 123

abbrev pub closes : ℕ → Bool
closes b = b == 41 || b == 93 || b == 125

-- how many are open after a byte
abbrev pub open_after : ℕ → ℕ → ℕ
open_after n b = cond (opens b) (n + 1) (cond (closes b) (n - 1) n)

-- the most that are open from here on, where n are open now
abbrev pub most_open : ℕ → List ℕ → ℕ
most_open n [] = n
most_open n (b ∷ bs) = max n (most_open (open_after n b) bs)

-- how many brackets are opened in all
abbrev pub openings : List ℕ → ℕ
openings [] = 0
openings (b ∷ bs) = cond (opens b) 1 0 + openings bs

abbrev mutual
  pub atom_depth : Atom → ℕ
  atom_depth (Symbol s x) = 0
  atom_depth (Read a i) = max (array_depth a) (1 + polynomial_depth i)
  atom_depth (Quotient a b) = 1 + max (polynomial_depth a) (polynomial_depth b)
  atom_depth (Remainder a b) = 1 + max (polynomial_depth a) (polynomial_depth b)

  pub monomial_depth : Monomial → ℕ
  monomial_depth (Number ds) = 0
  monomial_depth (One a) = atom_depth a
  monomial_depth (Times m a) = max (monomial_depth m) (atom_depth a)

  pub sum_depth : Sum → ℕ
  sum_depth (Positive m) = monomial_depth m
  sum_depth (Negative m) = monomial_depth m
  sum_depth (Plus s m) = max (sum_depth s) (monomial_depth m)
  sum_depth (Minus s m) = max (sum_depth s) (monomial_depth m)

  pub polynomial_depth : Polynomial → ℕ
  polynomial_depth Zero = 0
  polynomial_depth (Of s) = sum_depth s

  pub array_depth : ArrayTerm → ℕ
  array_depth ZeroArray = 0
  array_depth (Bare s x) = 0
  array_depth (Written a i v) = max (array_depth a) (1 + max (polynomial_depth i) (polynomial_depth v))

abbrev pub list_depth : ListSyntax → ℕ
list_depth EmptyList = 0
list_depth (BareList s x) = 0
list_depth (Pushed l p) = max (list_depth l) (1 + polynomial_depth p)

abbrev pub term_depth : TermSyntax → ℕ
term_depth (polynomial p) = polynomial_depth p
term_depth (array a) = array_depth a
term_depth (list l) = list_depth l
