-- A test of each number and each name of a written term.
use Rattle.std.specs.Prelude.{ℕ, Bool, true, not, ◌&&◌, nat_le, List, is_some, codes}
use Rattle.std.specs.Str.{bytes_eq}
use Rattle.fs_model.specs.Digits.{value_of_digits}
use Rattle.nf_terms.specs.TermLimits.{weight_limit}
use Rattle.fs_model.specs.declared.sides.Side.{Side}
use Rattle.nf_terms.specs.declared.symbols.Sort.{Sort}
use Rattle.nf_terms.specs.declared.symbols.Sort.TheVariants as sort
use Rattle.term_text.specs.TermTexts.{Atom, Monomial, Sum, Polynomial, ArrayTerm, ListSyntax, Symbol, Read, Quotient, Remainder}
use Rattle.term_text.specs.TermTexts.{Number, One, Times, Positive, Negative, Plus, Minus, Zero, Of, ZeroArray, Bare, Written}
use Rattle.term_text.specs.TermTexts.{EmptyList, BareList, Pushed}
use Rattle.term_values.specs.NameMeanings.{Find, name_has_sort}

-- of a number, of a number before an atom, and of a name where a sort is needed
pub record Test : Type 0 where
  pub number : List ℕ → Bool
  pub factor : List ℕ → Bool
  pub name : Sort → Side → List ℕ → Bool

-- whether what stands before an atom passes
abbrev pub factor_passes : Test → Monomial → Bool
factor_passes t (Number ds) = t.factor ds
factor_passes t (One a) = true
factor_passes t (Times m a) = true

abbrev mutual
  pub atom_passes : Test → Atom → Bool
  atom_passes t (Symbol s x) = t.name sort.Scalar s x
  atom_passes t (Read a i) = array_passes t a && polynomial_passes t i
  atom_passes t (Quotient a b) = polynomial_passes t a && polynomial_passes t b
  atom_passes t (Remainder a b) = polynomial_passes t a && polynomial_passes t b

  pub monomial_passes : Test → Monomial → Bool
  monomial_passes t (Number ds) = t.number ds
  monomial_passes t (One a) = atom_passes t a
  monomial_passes t (Times m a) = monomial_passes t m && factor_passes t m && atom_passes t a

  pub sum_passes : Test → Sum → Bool
  sum_passes t (Positive m) = monomial_passes t m
  sum_passes t (Negative m) = monomial_passes t m
  sum_passes t (Plus s m) = sum_passes t s && monomial_passes t m
  sum_passes t (Minus s m) = sum_passes t s && monomial_passes t m

  pub polynomial_passes : Test → Polynomial → Bool
  polynomial_passes t Zero = true
  polynomial_passes t (Of s) = sum_passes t s

  pub array_passes : Test → ArrayTerm → Bool
  array_passes t ZeroArray = true
  array_passes t (Bare s x) = t.name sort.Array s x
  array_passes t (Written a i v) = array_passes t a && polynomial_passes t i && polynomial_passes t v

abbrev pub list_passes : Test → ListSyntax → Bool
list_passes t EmptyList = true
list_passes t (BareList s x) = t.name sort.List s x
list_passes t (Pushed l p) = list_passes t l && polynomial_passes t p

abbrev pub any_digits : List ℕ → Bool
any_digits ds = true

abbrev pub any_name : Sort → Side → List ℕ → Bool
any_name wanted s x = true

-- each number is at most 2^127 - 1
abbrev pub numbers_fit : Test
numbers_fit = record { number = λ ds. nat_le (value_of_digits ds) weight_limit; factor = any_digits; name = any_name }

-- each name stands for a position
abbrev pub names_known : Find → Test
names_known find = record { number = any_digits; factor = any_digits; name = λ wanted s x. is_some (find s x) }

-- each name stands for a position of the sort that is needed
abbrev pub sorts_fit : Find → Test
sorts_fit find = record { number = any_digits; factor = any_digits; name = λ wanted s x. name_has_sort wanted (find s x) }

-- no 1 stands before an atom
abbrev pub ones_left_out : Test
ones_left_out = record { number = any_digits; factor = λ ds. not (bytes_eq ds (codes "1")); name = any_name }

-- all of these at once
abbrev pub faultless : Find → Test
faultless find = record { number = numbers_fit.number; factor = ones_left_out.factor; name = (sorts_fit find).name }
