-- Terms as contracts see them: plain data, without pointers and capacities.
use Rattle.std.specs.Prelude.{ℤ, pos, cond, List, [], ◌∷◌}
use Rattle.std.specs.Ordering.{int_eq}
use Rattle.fs_model.specs.declared.sides.Pos.{Pos}
use Rattle.nf_trees.specs.declared.tree.Base.{Base}

mutual
  -- a symbol, an array read at an index, a quotient or a remainder
  pub data Atom : Type 0 where
    Symbol : Pos → Atom
    Read : ArrayTerm → Polynomial → Atom
    Quotient : Polynomial → Polynomial → Atom
    Remainder : Polynomial → Polynomial → Atom

  -- a product of atoms
  pub data Monomial : Type 0 where
    One : Monomial
    Times : Atom → Monomial → Monomial

  -- a sum of monomials, each with its coefficient
  pub data Polynomial : Type 0 where
    Zero : Polynomial
    Plus : Monomial → ℤ → Polynomial → Polynomial

  -- writes over a base
  pub data ArrayTerm : Type 0 where
    Over : Base → Writes → ArrayTerm

  -- an index and a value for each write, the first write first
  pub data Writes : Type 0 where
    NoWrites : Writes
    Write : Polynomial → Polynomial → Writes → Writes

-- the product of these atoms
abbrev pub monomial_of : List Atom → Monomial
monomial_of [] = One
monomial_of (a ∷ rest) = Times a (monomial_of rest)

-- the sum of these monomials with their coefficients
abbrev pub polynomial_of : List (Monomial × ℤ) → Polynomial
polynomial_of [] = Zero
polynomial_of (t ∷ ts) = Plus t.0 t.1 (polynomial_of ts)

-- the writes of these pairs of index and value
abbrev pub writes_of : List (Polynomial × Polynomial) → Writes
writes_of [] = NoWrites
writes_of (w ∷ ws) = Write w.0 w.1 (writes_of ws)

-- a symbol alone
abbrev pub polynomial_of_symbol : Pos → Polynomial
polynomial_of_symbol p = Plus (Times (Symbol p) One) (pos 1) Zero

-- a number alone
abbrev pub polynomial_of_number : ℤ → Polynomial
polynomial_of_number c = cond (int_eq c (pos 0)) Zero (Plus One c Zero)

-- a base without writes
abbrev pub bare_array : Base → ArrayTerm
bare_array b = Over b NoWrites

-- what an array begins from
abbrev pub base_of : ArrayTerm → Base
base_of (Over b ws) = b

-- an array's writes
abbrev pub writes_over : ArrayTerm → Writes
writes_over (Over b ws) = ws
