-- Reading a term byte by byte. A state is what has been read and what is still owed.
use Rattle.std.specs.Prelude.{◌≡◌, ℕ, ◌==◌, ◌||◌, Bool, false, cond, List, [], ◌∷◌, ◌++◌, Option, Some, None, Result, Ok, Err}
use Rattle.fs_model.specs.Words.{is_letter, is_digit, is_word_byte, is_reserved}
use Rattle.fs_model.specs.declared.sides.Side.{Side}
use Rattle.fs_model.specs.declared.sides.Side.TheVariants.{Left, Right}
use Rattle.term_text.specs.declared.fault.ReadError.{ReadError}
use Rattle.term_text.specs.declared.fault.ReadError.TheVariants.{BadTerm, NoMemory}
use Rattle.term_text.specs.TermTexts.{Atom, Monomial, Sum, Polynomial, ArrayTerm, ListSyntax, TermSyntax, polynomial, array, list}
use Rattle.term_text.specs.TermTexts.{Symbol, Read, Quotient, Remainder, Number, One, Times, Positive, Negative, Plus, Minus}
use Rattle.term_text.specs.TermTexts.{Zero, Of, ZeroArray, Bare, Written, EmptyList, BareList, Pushed}

-- what a polynomial, an array, a monomial and an atom are for
mutual
  pub data ForPolynomial : Type 0 where
    whole_polynomial : ForPolynomial
    dividend : ForAtom → ForPolynomial
    divisor : Polynomial → ForAtom → ForPolynomial
    modulend : ForAtom → ForPolynomial
    modulus : Polynomial → ForAtom → ForPolynomial
    index : ArrayTerm → ForAtom → ForPolynomial
    place : ArrayTerm → ForArray → ForPolynomial
    value : ArrayTerm → Polynomial → ForArray → ForPolynomial
    item : ListSyntax → ForPolynomial

  pub data ForArray : Type 0 where
    whole_array : ForArray
    read_of : ForAtom → ForArray

  pub data ForMonomial : Type 0 where
    positive : ForPolynomial → ForMonomial
    negative : ForPolynomial → ForMonomial
    plus : Sum → ForPolynomial → ForMonomial
    minus : Sum → ForPolynomial → ForMonomial

  pub data ForAtom : Type 0 where
    first : ForMonomial → ForAtom
    times : Monomial → ForMonomial → ForAtom

-- what a symbol is for: an atom, or the base of an array that is read; the base of a whole array; the base of a whole list
pub data ForSymbol : Type 0 where
  in_atom : ForAtom → ForSymbol
  in_array : ForSymbol
  in_list : ForSymbol

pub data Owed : Type 0 where
  expect : ℕ → Owed → Owed
  at_polynomial : ForPolynomial → Owed
  at_monomial : ForMonomial → Owed
  at_atom : ForAtom → Owed
  at_array : Owed
  at_list : Owed
  at_symbol : Side → ForSymbol → Owed
  in_symbol : Side → List ℕ → ForSymbol → Owed
  after_symbol : Side → List ℕ → ForSymbol → Owed
  in_number : List ℕ → ForMonomial → Owed
  after_array : ArrayTerm → ForArray → Owed
  after_list : ListSyntax → Owed
  after_monomial : Monomial → ForMonomial → Owed
  after_sum : Sum → ForPolynomial → Owed
  at_sign : Sum → ForPolynomial → Owed
  after_polynomial : Polynomial → ForPolynomial → Owed

abbrev pub monomial_for : ForAtom → ForMonomial
monomial_for (first k) = k
monomial_for (times m k) = k

abbrev pub monomial_with : Atom → ForAtom → Monomial
monomial_with a (first k) = One a
monomial_with a (times m k) = Times m a

abbrev pub atom_done : Atom → ForAtom → Owed
atom_done a k = after_monomial (monomial_with a k) (monomial_for k)

abbrev pub polynomial_for : ForMonomial → ForPolynomial
polynomial_for (positive k) = k
polynomial_for (negative k) = k
polynomial_for (plus s k) = k
polynomial_for (minus s k) = k

abbrev pub sum_with : Monomial → ForMonomial → Sum
sum_with m (positive k) = Positive m
sum_with m (negative k) = Negative m
sum_with m (plus s k) = Plus s m
sum_with m (minus s k) = Minus s m

abbrev pub monomial_done : Monomial → ForMonomial → Owed
monomial_done m k = after_sum (sum_with m k) (polynomial_for k)

-- go on where the byte is this one
abbrev pub on_byte : ℕ → ℕ → Owed → Option Owed
on_byte b c s = cond (b == c) (Some s) None

abbrev pub step_polynomial : ℕ → Polynomial → ForPolynomial → Option Owed
step_polynomial b p whole_polynomial = None
step_polynomial b p (dividend k) = on_byte b 44 (expect 32 (at_polynomial (divisor p k)))
step_polynomial b p (divisor l k) = on_byte b 41 (atom_done (Quotient l p) k)
step_polynomial b p (modulend k) = on_byte b 44 (expect 32 (at_polynomial (modulus p k)))
step_polynomial b p (modulus l k) = on_byte b 41 (atom_done (Remainder l p) k)
step_polynomial b p (index a k) = on_byte b 93 (atom_done (Read a p) k)
step_polynomial b p (place a k) = on_byte b 58 (expect 32 (at_polynomial (value a p k)))
step_polynomial b p (value a i k) = on_byte b 125 (after_array (Written a i p) k)
step_polynomial b p (item l) = on_byte b 125 (after_list (Pushed l p))

abbrev pub step_term_sum : ℕ → Sum → ForPolynomial → Option Owed
step_term_sum b s k = cond (b == 32) (Some (at_sign s k)) (step_polynomial b (Of s) k)

abbrev pub step_sign : ℕ → Sum → ForPolynomial → Option Owed
step_sign b s k = cond (b == 43) (Some (expect 32 (at_monomial (plus s k))))
    (cond (b == 45) (Some (expect 32 (at_monomial (minus s k)))) None)

abbrev pub step_monomial : ℕ → Monomial → ForMonomial → Option Owed
step_monomial b m k = cond (b == 42) (Some (at_atom (times m k))) (step_term_sum b (sum_with m k) (polynomial_for k))

abbrev pub step_number : ℕ → List ℕ → ForMonomial → Option Owed
step_number b ds k = cond (is_digit b) (Some (in_number (ds ++ b ∷ []) k)) (step_monomial b (Number ds) k)

abbrev pub step_read : ℕ → ArrayTerm → ForAtom → Option Owed
step_read b a k = on_byte b 91 (at_polynomial (index a k))

abbrev pub step_array : ℕ → ArrayTerm → ForArray → Option Owed
step_array b a whole_array = on_byte b 123 (at_polynomial (place a whole_array))
step_array b a (read_of k) = cond (b == 123) (Some (at_polynomial (place a (read_of k)))) (step_read b a k)

abbrev pub step_list : ℕ → ListSyntax → Option Owed
step_list b l = on_byte b 123 (at_polynomial (item l))

-- after a symbol in an atom: it is the base of an array that is read, or an atom
abbrev pub step_after_symbol : ℕ → Side → List ℕ → ForSymbol → Option Owed
step_after_symbol b s x (in_atom k) = cond (b == 123 || b == 91) (step_array b (Bare s x) (read_of k))
    (step_monomial b (monomial_with (Symbol s x) k) (monomial_for k))
step_after_symbol b s x in_array = step_array b (Bare s x) whole_array
step_after_symbol b s x in_list = step_list b (BareList s x)

abbrev pub step_symbol : ℕ → Side → List ℕ → ForSymbol → Option Owed
step_symbol b s x f = cond (is_word_byte b) (Some (in_symbol s (x ++ b ∷ []) f))
    (cond (is_reserved x) None (step_after_symbol b s x f))

-- the bytes of "zero", "div(" and "rem(" after the first
abbrev pub step_atom : ℕ → ForAtom → Option Owed
step_atom b k =
    cond (b == 76) (Some (expect 46 (at_symbol Left (in_atom k))))
    (cond (b == 82) (Some (expect 46 (at_symbol Right (in_atom k))))
    (cond (b == 100) (Some (expect 105 (expect 118 (expect 40 (at_polynomial (dividend k))))))
    (cond (b == 114) (Some (expect 101 (expect 109 (expect 40 (at_polynomial (modulend k))))))
    (cond (b == 122) (Some (expect 101 (expect 114 (expect 111 (after_array ZeroArray (read_of k))))))
    None))))

abbrev pub step_whole_array : ℕ → Option Owed
step_whole_array b =
    cond (b == 76) (Some (expect 46 (at_symbol Left in_array)))
    (cond (b == 82) (Some (expect 46 (at_symbol Right in_array)))
    (cond (b == 122) (Some (expect 101 (expect 114 (expect 111 (after_array ZeroArray whole_array)))))
    None))

-- the bytes of "none" after the first
abbrev pub step_whole_list : ℕ → Option Owed
step_whole_list b =
    cond (b == 76) (Some (expect 46 (at_symbol Left in_list)))
    (cond (b == 82) (Some (expect 46 (at_symbol Right in_list)))
    (cond (b == 110) (Some (expect 111 (expect 110 (expect 101 (after_list EmptyList)))))
    None))

abbrev pub step_first : ℕ → ForMonomial → Option Owed
step_first b k = cond (is_digit b) (cond (b == 48) None (Some (in_number (b ∷ []) k))) (step_atom b (first k))

abbrev pub step_start : ℕ → ForPolynomial → Option Owed
step_start b k = cond (b == 48) (Some (after_polynomial Zero k))
    (cond (b == 45) (Some (at_monomial (negative k))) (step_first b (positive k)))

abbrev pub term_byte_step : Owed → ℕ → Option Owed
term_byte_step (expect c s) b = on_byte b c s
term_byte_step (at_polynomial k) b = step_start b k
term_byte_step (at_monomial k) b = step_first b k
term_byte_step (at_atom k) b = step_atom b k
term_byte_step at_array b = step_whole_array b
term_byte_step at_list b = step_whole_list b
term_byte_step (at_symbol s k) b = cond (is_letter b) (Some (in_symbol s (b ∷ []) k)) None
term_byte_step (in_symbol s x k) b = step_symbol b s x k
term_byte_step (after_symbol s x k) b = step_after_symbol b s x k
term_byte_step (in_number ds k) b = step_number b ds k
term_byte_step (after_array a k) b = step_array b a k
term_byte_step (after_list l) b = step_list b l
term_byte_step (after_monomial m k) b = step_monomial b m k
term_byte_step (after_sum s k) b = step_term_sum b s k
term_byte_step (at_sign s k) b = step_sign b s k
term_byte_step (after_polynomial p k) b = step_polynomial b p k

abbrev pub finish_polynomial : Polynomial → ForPolynomial → Option TermSyntax
finish_polynomial p whole_polynomial = Some (polynomial p)
finish_polynomial p _ = None

abbrev pub finish_array : ArrayTerm → ForArray → Option TermSyntax
finish_array a whole_array = Some (array a)
finish_array a (read_of k) = None

abbrev pub finish_monomial : Monomial → ForMonomial → Option TermSyntax
finish_monomial m k = finish_polynomial (Of (sum_with m k)) (polynomial_for k)

abbrev pub finish_symbol : Side → List ℕ → ForSymbol → Option TermSyntax
finish_symbol s x (in_atom k) = finish_monomial (monomial_with (Symbol s x) k) (monomial_for k)
finish_symbol s x in_array = Some (array (Bare s x))
finish_symbol s x in_list = Some (list (BareList s x))

-- what the bytes are, where they may end here
abbrev pub finish_term : Owed → Option TermSyntax
finish_term (expect c s) = None
finish_term (at_polynomial k) = None
finish_term (at_monomial k) = None
finish_term (at_atom k) = None
finish_term at_array = None
finish_term at_list = None
finish_term (at_symbol s k) = None
finish_term (in_symbol s x f) = cond (is_reserved x) None (finish_symbol s x f)
finish_term (after_symbol s x f) = finish_symbol s x f
finish_term (in_number ds k) = finish_monomial (Number ds) k
finish_term (after_array a k) = finish_array a k
finish_term (after_list l) = Some (list l)
finish_term (after_monomial m k) = finish_monomial m k
finish_term (after_sum s k) = finish_polynomial (Of s) k
finish_term (at_sign s k) = None
finish_term (after_polynomial p k) = finish_polynomial p k

abbrev pub take_term_byte : Option Owed → (Owed → Option TermSyntax) → Option TermSyntax
take_term_byte (Some s) go = go s
take_term_byte None go = None

-- what bytes are read as from a state on
abbrev pub term_reading : List ℕ → Owed → Option TermSyntax
term_reading [] s = finish_term s
term_reading (b ∷ bs) s = take_term_byte (term_byte_step s b) (term_reading bs)

-- what a function returned goes on from where it stopped, or there is no reading, or memory ran out
abbrev pub Goes : {X : Type 0} → Result X ReadError → Option TermSyntax → (X → Option TermSyntax) → Type 0
Goes (Ok x) read go = read ≡ go x
Goes (Err BadTerm) read go = read ≡ None
Goes (Err NoMemory) read go = Unit {0}

-- the text goes on as no sum does
abbrev pub EndsTermSum : List ℕ → Type 0
EndsTermSum [] = Unit {0}
EndsTermSum (b ∷ bs) = (b == 32) ≡ false

-- the text goes on with no write
abbrev pub EndsWrites : List ℕ → Type 0
EndsWrites [] = Unit {0}
EndsWrites (b ∷ bs) = (b == 123) ≡ false

-- whether the text goes on as an array does
abbrev pub IsNoArray : List ℕ → Bool → Type 0
IsNoArray [] goes_on = goes_on ≡ false
IsNoArray (b ∷ bs) goes_on = goes_on ≡ (b == 123 || b == 91)

-- what the first monomial of a sum, and a later one, is for
abbrev pub first_monomial_for : Bool → ForPolynomial → ForMonomial
first_monomial_for is_minus k = cond is_minus (negative k) (positive k)

abbrev pub monomial_of_sum : Bool → Sum → ForPolynomial → ForMonomial
monomial_of_sum is_minus s k = cond is_minus (minus s k) (plus s k)

abbrev pub EndsMonomial : List ℕ → Type 0
EndsMonomial [] = Unit {0}
EndsMonomial (b ∷ bs) = (b == 42) ≡ false

-- a result that has this value, where it has one; the one refusal is want of memory
abbrev pub TermMadeAs : {X : Type 0} → Result X ReadError → (X → Type 0) → Type 0
TermMadeAs (Ok x) is = is x
TermMadeAs (Err BadTerm) is = ⊥
TermMadeAs (Err NoMemory) is = Unit {0}

-- whether the first byte passes a test
abbrev pub begins : (ℕ → Bool) → List ℕ → Bool
begins test [] = false
begins test (b ∷ bs) = test b

-- what stands behind a byte, where that is the first
abbrev pub rest_after : ℕ → List ℕ → Option (List ℕ)
rest_after c [] = None
rest_after c (b ∷ bs) = cond (b == c) (Some bs) None

-- what a function returned is what is read of all bytes
abbrev pub IsRead : {X : Type 0} → Owed → (X → TermSyntax) → Result X ReadError → List ℕ → Type 0
IsRead start term_of (Ok x) bytes = term_reading bytes start ≡ Some (term_of x)
IsRead start term_of (Err BadTerm) bytes = term_reading bytes start ≡ None
IsRead start term_of (Err NoMemory) bytes = Unit {0}
