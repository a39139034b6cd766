-- The term that a written term stands for.
use Rattle.std.specs.Prelude.{ℕ, pos, neg_ℤ, List, [], ◌∷◌}
use Rattle.fs_model.specs.Digits.{value_of_digits}
use Rattle.fs_model.specs.declared.sides.Side.{Side}
use Rattle.fs_model.specs.declared.sides.Pos.{Pos}
use Rattle.nf_trees.specs.declared.tree.Base.TheVariants as bases
use Rattle.nf_terms.specs.declared.tree.SeqBase.{SeqBase}
use Rattle.nf_terms.specs.declared.tree.SeqBase.TheVariants as list_bases
use Rattle.nf_trees.specs.NormalTerms as terms
use Rattle.nf_terms.specs.Lists.{ListTerm}
use Rattle.term_text.specs.TermTexts as text
use Rattle.term_text.specs.TermTexts.{Symbol, Read, Quotient, Remainder, Number, One, Times, Positive, Negative, Plus, Minus}
use Rattle.term_text.specs.TermTexts.{Zero, Of, ZeroArray, Bare, Written, EmptyList, BareList, Pushed}
use Rattle.term_condition_text.specs.DigitNumbers.{clipped_number}
use Rattle.term_values.specs.NameMeanings.{Find, position}

-- what digits and names stand for
pub record Interpretation : Type 0 where
  pub number : List ℕ → ℕ
  pub place : Side → List ℕ → Pos

abbrev pub exact : Find → Interpretation
exact find = record { number = value_of_digits; place = position find }

abbrev pub within_limit : Find → Interpretation
within_limit find = record { number = clipped_number; place = position find }

-- the coefficient that is written, 1 where there is none
abbrev pub coefficient : (List ℕ → ℕ) → text.Monomial → ℕ
coefficient number (Number ds) = number ds
coefficient number (One a) = 1
coefficient number (Times m a) = coefficient number m

abbrev mutual
  pub atom_value : Interpretation → text.Atom → terms.Atom
  atom_value r (Symbol s x) = terms.Symbol (r.place s x)
  atom_value r (Read a i) = terms.Read (array_value r a terms.NoWrites) (polynomial_value r i)
  atom_value r (Quotient a b) = terms.Quotient (polynomial_value r a) (polynomial_value r b)
  atom_value r (Remainder a b) = terms.Remainder (polynomial_value r a) (polynomial_value r b)

  -- the atoms of a monomial, before others
  pub atoms_of : Interpretation → text.Monomial → terms.Monomial → terms.Monomial
  atoms_of r (Number ds) rest = rest
  atoms_of r (One a) rest = terms.Times (atom_value r a) rest
  atoms_of r (Times m a) rest = atoms_of r m (terms.Times (atom_value r a) rest)

  -- the monomials of a sum, before others
  pub sum_value : Interpretation → text.Sum → terms.Polynomial → terms.Polynomial
  sum_value r (Positive m) rest = terms.Plus (atoms_of r m terms.One) (pos (coefficient r.number m)) rest
  sum_value r (Negative m) rest = terms.Plus (atoms_of r m terms.One) (neg_ℤ (pos (coefficient r.number m))) rest
  sum_value r (Plus s m) rest = sum_value r s (terms.Plus (atoms_of r m terms.One) (pos (coefficient r.number m)) rest)
  sum_value r (Minus s m) rest = sum_value r s (terms.Plus (atoms_of r m terms.One) (neg_ℤ (pos (coefficient r.number m))) rest)

  pub polynomial_value : Interpretation → text.Polynomial → terms.Polynomial
  polynomial_value r Zero = terms.Zero
  polynomial_value r (Of s) = sum_value r s terms.Zero

  -- an array with further writes behind its own
  pub array_value : Interpretation → text.ArrayTerm → terms.Writes → terms.ArrayTerm
  array_value r ZeroArray ws = terms.Over bases.Zero ws
  array_value r (Bare s x) ws = terms.Over (bases.Sym (r.place s x)) ws
  array_value r (Written a i v) ws = array_value r a (terms.Write (polynomial_value r i) (polynomial_value r v) ws)

abbrev pub list_base : Interpretation → text.ListSyntax → SeqBase
list_base r EmptyList = list_bases.Empty
list_base r (BareList s x) = list_bases.Sym (r.place s x)
list_base r (Pushed l p) = list_base r l

-- the items of a list, before others
abbrev pub list_items : Interpretation → text.ListSyntax → List terms.Polynomial → List terms.Polynomial
list_items r EmptyList rest = rest
list_items r (BareList s x) rest = rest
list_items r (Pushed l p) rest = list_items r l (polynomial_value r p ∷ rest)

abbrev pub list_value : Interpretation → text.ListSyntax → ListTerm
list_value r l = record { base = list_base r l; items = list_items r l [] }
