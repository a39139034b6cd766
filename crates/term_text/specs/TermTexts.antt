-- Terms as they are written, and their texts. Every choice that a text has is a choice of the parts here.
use Rattle.std.specs.Prelude.{ℕ, List, ◌++◌, codes}
use Rattle.fs_model.specs.declared.sides.Side.{Side}
use Rattle.fs_model.specs.declared.sides.Side.TheVariants.{Left, Right}

-- polynomial = "0" | [ "-" ] monomial { ( " + " | " - " ) monomial }
-- monomial = number | [ number "*" ] atom { "*" atom }
-- number = a digit from 1 to 9, then digits
-- atom = symbol | array "[" polynomial "]" | "div(" polynomial ", " polynomial ")" | "rem(" polynomial ", " polynomial ")"
-- symbol = ( "L." | "R." ) name
-- array = ( "zero" | symbol ) { "{" polynomial ": " polynomial "}" }
-- list = ( "none" | symbol ) { "{" polynomial "}" }
mutual
  pub data Atom : Type 0 where
    Symbol : Side → List ℕ → Atom
    Read : ArrayTerm → Polynomial → Atom
    Quotient : Polynomial → Polynomial → Atom
    Remainder : Polynomial → Polynomial → Atom

  pub data Monomial : Type 0 where
    Number : List ℕ → Monomial
    One : Atom → Monomial
    Times : Monomial → Atom → Monomial

  pub data Sum : Type 0 where
    Positive : Monomial → Sum
    Negative : Monomial → Sum
    Plus : Sum → Monomial → Sum
    Minus : Sum → Monomial → Sum

  pub data Polynomial : Type 0 where
    Zero : Polynomial
    Of : Sum → Polynomial

  pub data ArrayTerm : Type 0 where
    ZeroArray : ArrayTerm
    Bare : Side → List ℕ → ArrayTerm
    Written : ArrayTerm → Polynomial → Polynomial → ArrayTerm

pub data ListSyntax : Type 0 where
  EmptyList : ListSyntax
  BareList : Side → List ℕ → ListSyntax
  Pushed : ListSyntax → Polynomial → ListSyntax

-- a term of one of the three sorts
pub data TermSyntax : Type 0 where
  polynomial : Polynomial → TermSyntax
  array : ArrayTerm → TermSyntax
  list : ListSyntax → TermSyntax

-- "L." or "R.", and the name
abbrev pub symbol_text : Side → List ℕ → List ℕ
symbol_text Left x = codes "L." ++ x
symbol_text Right x = codes "R." ++ x

abbrev mutual
  pub atom_text : Atom → List ℕ
  atom_text (Symbol s x) = symbol_text s x
  atom_text (Read a i) = array_text a ++ (codes "[" ++ (polynomial_text i ++ codes "]"))
  atom_text (Quotient a b) = codes "div(" ++ (polynomial_text a ++ (codes ", " ++ (polynomial_text b ++ codes ")")))
  atom_text (Remainder a b) = codes "rem(" ++ (polynomial_text a ++ (codes ", " ++ (polynomial_text b ++ codes ")")))

  pub monomial_text : Monomial → List ℕ
  monomial_text (Number ds) = ds
  monomial_text (One a) = atom_text a
  monomial_text (Times m a) = monomial_text m ++ (codes "*" ++ atom_text a)

  pub sum_text : Sum → List ℕ
  sum_text (Positive m) = monomial_text m
  sum_text (Negative m) = codes "-" ++ monomial_text m
  sum_text (Plus s m) = sum_text s ++ (codes " + " ++ monomial_text m)
  sum_text (Minus s m) = sum_text s ++ (codes " - " ++ monomial_text m)

  pub polynomial_text : Polynomial → List ℕ
  polynomial_text Zero = codes "0"
  polynomial_text (Of s) = sum_text s

  pub array_text : ArrayTerm → List ℕ
  array_text ZeroArray = codes "zero"
  array_text (Bare s x) = symbol_text s x
  array_text (Written a i v) = array_text a
      ++ (codes "{" ++ (polynomial_text i ++ (codes ": " ++ (polynomial_text v ++ codes "}"))))

abbrev pub list_text : ListSyntax → List ℕ
list_text EmptyList = codes "none"
list_text (BareList s x) = symbol_text s x
list_text (Pushed l p) = list_text l ++ (codes "{" ++ (polynomial_text p ++ codes "}"))

abbrev pub term_text : TermSyntax → List ℕ
term_text (polynomial p) = polynomial_text p
term_text (array a) = array_text a
term_text (list l) = list_text l
