-- How a normal term is written: its monomials in order, no coefficient 1 before an atom.
use Rattle.std.specs.Prelude.{ℕ, zero, suc, ◌==◌, ℤ, pos, negsuc, unsigned_abs, cond, List, [], ◌∷◌, decimal}
use Rattle.fs_model.specs.declared.sides.Pos.{Pos}
use Rattle.nf_trees.specs.declared.tree.Base.TheVariants as bases
use Rattle.nf_trees.specs.NormalTerms as terms
use Rattle.term_text.specs.TermTexts.{Atom, Monomial, Sum, Polynomial, ArrayTerm, Symbol, Read, Quotient, Remainder, Number, One}
use Rattle.term_text.specs.TermTexts.{Times, Positive, Negative, Plus, Minus, Zero, Of, ZeroArray, Bare, Written, ListSyntax}
use Rattle.term_text.specs.TermTexts.{EmptyList, BareList, Pushed}
use Rattle.nf_terms.specs.Lists as lists
use Rattle.nf_terms.specs.declared.tree.SeqBase.{SeqBase}
use Rattle.nf_terms.specs.declared.tree.SeqBase.TheVariants as list_bases
use Rattle.nf_rel.specs.Literals as literals
use Rattle.nf_rel.specs.Literals.{NormalLiteral}
use Rattle.term_condition_text.specs.ConditionTexts as conditions
use Rattle.term_condition_text.specs.ConditionTexts.{Integer, ZeroInteger, Condition, False, Compared}

-- a first monomial, and a later one, under the sign of its coefficient
abbrev pub sum_of_term : ℤ → Monomial → Sum
sum_of_term (pos n) m = Positive m
sum_of_term (negsuc n) m = Negative m

abbrev pub sum_with_term : Sum → ℤ → Monomial → Sum
sum_with_term s (pos n) m = Plus s m
sum_with_term s (negsuc n) m = Minus s m

abbrev mutual
  pub atom_written : (Pos → List ℕ) → terms.Atom → Atom
  atom_written name (terms.Symbol p) = Symbol p.side (name p)
  atom_written name (terms.Read a i) = Read (array_written name a) (polynomial_written name i)
  atom_written name (terms.Quotient a b) = Quotient (polynomial_written name a) (polynomial_written name b)
  atom_written name (terms.Remainder a b) = Remainder (polynomial_written name a) (polynomial_written name b)

  -- atoms after what stands before
  pub times_written : (Pos → List ℕ) → Monomial → terms.Monomial → Monomial
  times_written name w terms.One = w
  times_written name w (terms.Times a m) = times_written name (Times w (atom_written name a)) m

  -- a monomial and the absolute value of its coefficient
  pub monomial_written : (Pos → List ℕ) → ℕ → terms.Monomial → Monomial
  monomial_written name n terms.One = Number (decimal n)
  monomial_written name n (terms.Times a m) =
      times_written name (cond (n == 1) (One (atom_written name a)) (Times (Number (decimal n)) (atom_written name a))) m

  pub sum_written : (Pos → List ℕ) → Sum → terms.Polynomial → Sum
  sum_written name s terms.Zero = s
  sum_written name s (terms.Plus m c p) = sum_written name (sum_with_term s c (monomial_written name (unsigned_abs c) m)) p

  pub polynomial_written : (Pos → List ℕ) → terms.Polynomial → Polynomial
  polynomial_written name terms.Zero = Zero
  polynomial_written name (terms.Plus m c p) = Of (sum_written name (sum_of_term c (monomial_written name (unsigned_abs c) m)) p)

  pub writes_written : (Pos → List ℕ) → ArrayTerm → terms.Writes → ArrayTerm
  writes_written name a terms.NoWrites = a
  writes_written name a (terms.Write i v ws) = writes_written name
      (Written a (polynomial_written name i) (polynomial_written name v)) ws

  pub array_written : (Pos → List ℕ) → terms.ArrayTerm → ArrayTerm
  array_written name (terms.Over bases.Zero ws) = writes_written name ZeroArray ws
  array_written name (terms.Over (bases.Sym p) ws) = writes_written name (Bare p.side (name p)) ws

-- items after what stands before
abbrev pub items_written : (Pos → List ℕ) → ListSyntax → List terms.Polynomial → ListSyntax
items_written name l [] = l
items_written name l (p ∷ ps) = items_written name (Pushed l (polynomial_written name p)) ps

abbrev pub list_base_written : (Pos → List ℕ) → SeqBase → ListSyntax
list_base_written name list_bases.Empty = EmptyList
list_base_written name (list_bases.Sym p) = BareList p.side (name p)

abbrev pub list_written : (Pos → List ℕ) → lists.ListTerm → ListSyntax
list_written name l = items_written name (list_base_written name l.base) l.items

-- a number under its sign
abbrev pub integer_written : ℤ → Integer
integer_written (pos zero) = ZeroInteger
integer_written (pos (suc n)) = conditions.Positive (decimal (suc n))
integer_written (negsuc n) = conditions.Negative (decimal (suc n))

-- a literal that isn't true: that one has no text
abbrev pub literal_written : (Pos → List ℕ) → NormalLiteral → Condition
literal_written name literals.True = False
literal_written name literals.False = False
literal_written name (literals.Is d k b) = Compared (polynomial_written name d) k (integer_written b)
