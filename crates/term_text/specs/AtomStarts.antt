-- What an atom begins with, and what is made of the parts that were read.
use Rattle.std.specs.Prelude.{◌≡◌, ℕ, List, length, Result, Ok, Err}
use Rattle.std.specs.Borrow.{Bor}
use Rattle.term_text.specs.declared.fault.ReadError.{ReadError}
use Rattle.term_text.specs.declared.fault.ReadError.TheVariants.{BadTerm, NoMemory}
use Rattle.term_text.specs.declared.starts.AtomStart.{AtomStart}
use Rattle.term_text.specs.declared.starts.AtomStart.TheVariants as starts
use Rattle.term_text.specs.declared.starts.DivisionKind.{DivisionKind}
use Rattle.term_text.specs.declared.starts.DivisionKind.TheVariants as kinds
use Rattle.term_text.specs.TermTexts.{Atom, Polynomial, Symbol, Quotient, Remainder}
use Rattle.term_text.specs.View.{base_in}
use Rattle.term_text.specs.Machine.{Owed, ForPolynomial, ForAtom, read_of, dividend, divisor, modulend}
use Rattle.term_text.specs.Machine.{modulus, expect, at_polynomial}
use Rattle.term_text.specs.Machine.{after_array, after_polynomial, atom_done, term_reading}

-- what the two sides of a division are for, and what is made of them
abbrev pub left_side : DivisionKind → ForAtom → ForPolynomial
left_side kinds.Quotient k = dividend k
left_side kinds.Remainder k = modulend k

abbrev pub right_side : DivisionKind → Polynomial → ForAtom → ForPolynomial
right_side kinds.Quotient l k = divisor l k
right_side kinds.Remainder l k = modulus l k

abbrev pub division_of : DivisionKind → Polynomial → Polynomial → Atom
division_of kinds.Quotient l r = Quotient l r
division_of kinds.Remainder l r = Remainder l r

-- what is owed behind what an atom begins with
abbrev pub after_start : AtomStart → ForAtom → Owed
after_start (starts.Symbol s x) k = atom_done (Symbol s x.now) k
after_start (starts.Array b) k = after_array (base_in b) (read_of k)
after_start (starts.Division d) k = at_polynomial (left_side d k)

-- behind a polynomial for this, the byte comes, and then what is done with the polynomial
abbrev pub Closes : ℕ → ForPolynomial → (Polynomial → Owed) → Type 0
Closes b k done = (bs : List ℕ) (p : Polynomial) → term_reading bs (after_polynomial p k) ≡ term_reading bs (expect b (done p))

-- how much an opening left to be read
abbrev pub rest_length : Result (Bor (List ℕ)) ReadError → ℕ
rest_length (Ok r) = length r.now
rest_length (Err e) = 0

-- what is made of what was read: a refusal is passed on, and the one refusal of the making is want of memory
abbrev pub MadeFrom : {X Y : Type 0} → Result X ReadError → Result Y ReadError → (X → Y → Type 0) → Type 0
MadeFrom (Ok x) (Ok y) is = is x y
MadeFrom (Ok x) (Err BadTerm) is = ⊥
MadeFrom (Ok x) (Err NoMemory) is = Unit {0}
MadeFrom (Err e) (Ok y) is = ⊥
MadeFrom (Err e) (Err d) is = d ≡ e
