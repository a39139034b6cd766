-- Which written terms have a text: numbers without a leading zero, and names that are words and not reserved.
use Rattle.std.specs.Prelude.{◌≡◌, nat_le, ℕ, ◌==◌, Bool, true, false, not, ◌&&◌, List, [], ◌∷◌}
use Rattle.std.specs.List.{list_all}
use Rattle.nf_terms.specs.TermLimits.{depth_limit}
use Rattle.term_text.specs.Brackets.{most_open}
use Rattle.fs_model.specs.Words.{is_digit, is_word, is_reserved}
use Rattle.term_text.specs.TermTexts.{ListSyntax, EmptyList, BareList, Pushed, TermSyntax, polynomial, array, list, term_text}
use Rattle.term_text.specs.TermTexts.{Atom, Monomial, Sum, Polynomial, ArrayTerm, Symbol, Read, Quotient, Remainder, Number, One}
use Rattle.term_text.specs.TermTexts.{Times, Positive, Negative, Plus, Minus, Zero, Of, ZeroArray, Bare, Written}

-- a digit from 1 to 9, and digits
abbrev pub is_number_text : List ℕ → Bool
is_number_text [] = false
is_number_text (d ∷ ds) = is_digit d && not (d == 48) && list_all is_digit ds

abbrev pub is_symbol_name : List ℕ → Bool
is_symbol_name x = is_word x && not (is_reserved x)

abbrev mutual
  pub atom_spelled : Atom → Bool
  atom_spelled (Symbol s x) = is_symbol_name x
  atom_spelled (Read a i) = array_spelled a && polynomial_spelled i
  atom_spelled (Quotient a b) = polynomial_spelled a && polynomial_spelled b
  atom_spelled (Remainder a b) = polynomial_spelled a && polynomial_spelled b

  pub monomial_spelled : Monomial → Bool
  monomial_spelled (Number ds) = is_number_text ds
  monomial_spelled (One a) = atom_spelled a
  monomial_spelled (Times m a) = monomial_spelled m && atom_spelled a

  pub sum_spelled : Sum → Bool
  sum_spelled (Positive m) = monomial_spelled m
  sum_spelled (Negative m) = monomial_spelled m
  sum_spelled (Plus s m) = sum_spelled s && monomial_spelled m
  sum_spelled (Minus s m) = sum_spelled s && monomial_spelled m

  pub polynomial_spelled : Polynomial → Bool
  polynomial_spelled Zero = true
  polynomial_spelled (Of s) = sum_spelled s

  pub array_spelled : ArrayTerm → Bool
  array_spelled ZeroArray = true
  array_spelled (Bare s x) = is_symbol_name x
  array_spelled (Written a i v) = array_spelled a && polynomial_spelled i && polynomial_spelled v

abbrev pub list_spelled : ListSyntax → Bool
list_spelled EmptyList = true
list_spelled (BareList s x) = is_symbol_name x
list_spelled (Pushed l p) = list_spelled l && polynomial_spelled p

abbrev pub term_spelled : TermSyntax → Bool
term_spelled (polynomial p) = polynomial_spelled p
term_spelled (array a) = array_spelled a
term_spelled (list l) = list_spelled l

-- the bytes are the text of this term, and at most 64 brackets are open at once
pub record SpellsTermText (bytes : List ℕ) (t : TermSyntax) : Type 0 where
  pub spelled : term_spelled t ≡ true
  pub text : bytes ≡ term_text t
  pub shallow : nat_le (most_open 0 bytes) depth_limit ≡ true
