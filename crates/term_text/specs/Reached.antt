-- What the bytes before a state are: the text of what has been read, and of what it is for.
use Rattle.std.specs.Prelude.{◌≡◌, ℕ, Bool, true, ◌&&◌, List, [], ◌∷◌, ◌++◌, codes}
use Rattle.fs_model.specs.Words.{is_word}
use Rattle.term_text.specs.TermTexts.{TermSyntax, term_text, symbol_text, monomial_text, sum_text, polynomial_text, array_text}
use Rattle.term_text.specs.TermTexts.{list_text}
use Rattle.term_text.specs.SpellableTerms.{is_number_text, is_symbol_name, monomial_spelled, sum_spelled, polynomial_spelled}
use Rattle.term_text.specs.SpellableTerms.{array_spelled, list_spelled, term_spelled}
use Rattle.term_text.specs.Machine.{ForPolynomial, ForArray, ForMonomial, ForAtom, ForSymbol, in_atom, in_array, in_list}
use Rattle.term_text.specs.Machine.{whole_polynomial, whole_array, read_of, dividend, divisor, modulend, modulus, index, place}
use Rattle.term_text.specs.Machine.{value, item, positive, negative, plus, minus, first, times, Owed, expect, at_polynomial}
use Rattle.term_text.specs.Machine.{at_monomial, at_atom, at_array, at_list, at_symbol, at_sign, in_number, in_symbol, after_list}
use Rattle.term_text.specs.Machine.{after_symbol, after_array, after_monomial, after_sum, after_polynomial}

abbrev mutual
  pub before_polynomial : ForPolynomial → List ℕ
  before_polynomial whole_polynomial = []
  before_polynomial (dividend k) = before_atom k ++ codes "div("
  before_polynomial (divisor p k) = before_atom k ++ (codes "div(" ++ (polynomial_text p ++ codes ", "))
  before_polynomial (modulend k) = before_atom k ++ codes "rem("
  before_polynomial (modulus p k) = before_atom k ++ (codes "rem(" ++ (polynomial_text p ++ codes ", "))
  before_polynomial (index a k) = before_atom k ++ (array_text a ++ codes "[")
  before_polynomial (place a k) = before_array k ++ (array_text a ++ codes "{")
  before_polynomial (value a i k) = before_array k ++ (array_text a ++ (codes "{" ++ (polynomial_text i ++ codes ": ")))
  before_polynomial (item l) = list_text l ++ codes "{"

  pub before_array : ForArray → List ℕ
  before_array whole_array = []
  before_array (read_of k) = before_atom k

  pub before_monomial : ForMonomial → List ℕ
  before_monomial (positive k) = before_polynomial k
  before_monomial (negative k) = before_polynomial k ++ codes "-"
  before_monomial (plus s k) = before_polynomial k ++ (sum_text s ++ codes " + ")
  before_monomial (minus s k) = before_polynomial k ++ (sum_text s ++ codes " - ")

  pub before_atom : ForAtom → List ℕ
  before_atom (first k) = before_monomial k
  before_atom (times m k) = before_monomial k ++ (monomial_text m ++ codes "*")

abbrev mutual
  pub fine_polynomial : ForPolynomial → Bool
  fine_polynomial whole_polynomial = true
  fine_polynomial (dividend k) = fine_atom k
  fine_polynomial (divisor p k) = fine_atom k && polynomial_spelled p
  fine_polynomial (modulend k) = fine_atom k
  fine_polynomial (modulus p k) = fine_atom k && polynomial_spelled p
  fine_polynomial (index a k) = fine_atom k && array_spelled a
  fine_polynomial (place a k) = fine_array k && array_spelled a
  fine_polynomial (value a i k) = fine_array k && (array_spelled a && polynomial_spelled i)
  fine_polynomial (item l) = list_spelled l

  pub fine_array : ForArray → Bool
  fine_array whole_array = true
  fine_array (read_of k) = fine_atom k

  pub fine_monomial : ForMonomial → Bool
  fine_monomial (positive k) = fine_polynomial k
  fine_monomial (negative k) = fine_polynomial k
  fine_monomial (plus s k) = fine_polynomial k && sum_spelled s
  fine_monomial (minus s k) = fine_polynomial k && sum_spelled s

  pub fine_atom : ForAtom → Bool
  fine_atom (first k) = fine_monomial k
  fine_atom (times m k) = fine_monomial k && monomial_spelled m

abbrev pub before_symbol : ForSymbol → List ℕ
before_symbol (in_atom k) = before_atom k
before_symbol in_array = []
before_symbol in_list = []

abbrev pub fine_symbol : ForSymbol → Bool
fine_symbol (in_atom k) = fine_atom k
fine_symbol in_array = true
fine_symbol in_list = true

-- what was read before, and that it is spelled as it should be
pub record ReadSoFar (good : Bool) (before bytes : List ℕ) : Type 0 where
  pub fine : good ≡ true
  pub text : bytes ≡ before

abbrev pub Reached : Owed → List ℕ → Type 0
Reached (expect c s) bs = Reached s (bs ++ c ∷ [])
Reached (at_polynomial k) bs = ReadSoFar (fine_polynomial k) (before_polynomial k) bs
Reached (at_monomial k) bs = ReadSoFar (fine_monomial k) (before_monomial k) bs
Reached (at_atom k) bs = ReadSoFar (fine_atom k) (before_atom k) bs
Reached at_array bs = ReadSoFar true [] bs
Reached at_list bs = ReadSoFar true [] bs
Reached (at_symbol s f) bs = ReadSoFar (fine_symbol f) (before_symbol f ++ symbol_text s []) bs
Reached (in_symbol s x f) bs = ReadSoFar (fine_symbol f && is_word x) (before_symbol f ++ symbol_text s x) bs
Reached (after_symbol s x f) bs = ReadSoFar (fine_symbol f && is_symbol_name x) (before_symbol f ++ symbol_text s x) bs
Reached (in_number ds k) bs = ReadSoFar (fine_monomial k && is_number_text ds) (before_monomial k ++ ds) bs
Reached (after_array a k) bs = ReadSoFar (fine_array k && array_spelled a) (before_array k ++ array_text a) bs
Reached (after_list l) bs = ReadSoFar (list_spelled l) (list_text l) bs
Reached (after_monomial m k) bs = ReadSoFar (fine_monomial k && monomial_spelled m) (before_monomial k ++ monomial_text m) bs
Reached (after_sum s k) bs = ReadSoFar (fine_polynomial k && sum_spelled s) (before_polynomial k ++ sum_text s) bs
Reached (at_sign s k) bs = ReadSoFar (fine_polynomial k && sum_spelled s) (before_polynomial k ++ (sum_text s ++ codes " ")) bs
Reached (after_polynomial p k) bs = ReadSoFar (fine_polynomial k && polynomial_spelled p)
    (before_polynomial k ++ polynomial_text p) bs

-- the bytes are the text of what is read in the end
abbrev pub SpellsTerm : List ℕ → TermSyntax → Type 0
SpellsTerm bs t = ReadSoFar (term_spelled t) (term_text t) bs
