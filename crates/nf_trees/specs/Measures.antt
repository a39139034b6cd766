-- The size, the depth and the weight of a term.
use Rattle.std.specs.Prelude.{unsigned_abs, ℕ, ◌+◌, max}
use Rattle.nf_trees.specs.NormalTerms.{Atom, Monomial, Polynomial, ArrayTerm, Writes, Symbol, Read, Quotient, Remainder, One}
use Rattle.nf_trees.specs.NormalTerms.{Times, Zero, Plus, Over, NoWrites, Write}

abbrev mutual
  -- 1 for an atom, and its parts
  pub size_of_atom : Atom → ℕ
  size_of_atom (Symbol p) = 1
  size_of_atom (Read a i) = 1 + size_of_array a + size_of i
  size_of_atom (Quotient a b) = 1 + size_of a + size_of b
  size_of_atom (Remainder a b) = 1 + size_of a + size_of b

  -- the atoms' sizes together
  pub size_of_monomial : Monomial → ℕ
  size_of_monomial One = 0
  size_of_monomial (Times a m) = size_of_atom a + size_of_monomial m

  -- 1 for each monomial, and its atoms
  pub size_of : Polynomial → ℕ
  size_of Zero = 0
  size_of (Plus m c p) = 1 + size_of_monomial m + size_of p

  -- 1 for each write, its index and its value
  pub size_of_writes : Writes → ℕ
  size_of_writes NoWrites = 0
  size_of_writes (Write i v ws) = 1 + size_of i + size_of v + size_of_writes ws

  -- 1 for the base, and the writes
  pub size_of_array : ArrayTerm → ℕ
  size_of_array (Over b ws) = 1 + size_of_writes ws

abbrev mutual
  -- the most brackets that are open at once in `a[i]`, `div(a, b)` or `rem(a, b)`; a symbol has none
  pub depth_of_atom : Atom → ℕ
  depth_of_atom (Symbol p) = 0
  depth_of_atom (Read a i) = max (depth_of_array a) (1 + depth_of i)
  depth_of_atom (Quotient a b) = 1 + max (depth_of a) (depth_of b)
  depth_of_atom (Remainder a b) = 1 + max (depth_of a) (depth_of b)

  -- the most in any of the atoms
  pub depth_of_monomial : Monomial → ℕ
  depth_of_monomial One = 0
  depth_of_monomial (Times a m) = max (depth_of_atom a) (depth_of_monomial m)

  -- the most in any of the monomials
  pub depth_of : Polynomial → ℕ
  depth_of Zero = 0
  depth_of (Plus m c p) = max (depth_of_monomial m) (depth_of p)

  -- the most in any of the writes, each of the text `{i: v}`
  pub depth_of_writes : Writes → ℕ
  depth_of_writes NoWrites = 0
  depth_of_writes (Write i v ws) = max (1 + max (depth_of i) (depth_of v)) (depth_of_writes ws)

  -- the most in any of the writes; the base has none
  pub depth_of_array : ArrayTerm → ℕ
  depth_of_array (Over b ws) = depth_of_writes ws

-- the sum of the absolute values of the coefficients
abbrev pub weight_of : Polynomial → ℕ
weight_of Zero = 0
weight_of (Plus m c p) = unsigned_abs c + weight_of p
