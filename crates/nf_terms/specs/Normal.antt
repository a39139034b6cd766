-- Which terms are normal.
use Rattle.std.specs.Prelude.{◌≤◌, ℤ, pos, ◌+ℤ◌, nat_le, int_lt, Bool, true, false, ◌&&◌, ◌||◌, not, IsTrue}
use Rattle.std.specs.Ordering.{is_lt, is_le, int_eq}
use Rattle.nf_trees.specs.NormalTerms.{Atom, Monomial, Polynomial, ArrayTerm, Writes, Symbol, Read, Quotient, Remainder, One}
use Rattle.nf_trees.specs.NormalTerms.{Times, Zero, Plus, Over, NoWrites, Write}
use Rattle.nf_terms.specs.TermLimits.{weight_limit, size_limit, depth_limit}
use Rattle.nf_trees.specs.Order.{cmp_atom, cmp_monomial, same_polynomial}
use Rattle.nf_trees.specs.Measures.{size_of, size_of_array, depth_of, depth_of_array, weight_of}
use Rattle.nf_trees.specs.declared.tree.Base.TheVariants as base

-- whether a monomial has an atom
abbrev pub has_atoms : Monomial → Bool
has_atoms One = false
has_atoms (Times a m) = true

-- whether the first monomial, if there is one, has an atom
abbrev pub begins_with_atoms : Polynomial → Bool
begins_with_atoms Zero = true
begins_with_atoms (Plus m c p) = has_atoms m

-- the monomials that have atoms, with their coefficients
abbrev pub part_with_atoms : Polynomial → Polynomial
part_with_atoms Zero = Zero
part_with_atoms (Plus One c p) = part_with_atoms p
part_with_atoms (Plus (Times a m) c p) = Plus (Times a m) c (part_with_atoms p)

-- the coefficient of the monomial without atoms
abbrev pub constant_part : Polynomial → ℤ
constant_part Zero = pos 0
constant_part (Plus One c p) = c
constant_part (Plus (Times a m) c p) = constant_part p

-- the coefficients of all monomials without atoms together: of a polynomial in order its constant part
abbrev pub constant_sum : Polynomial → ℤ
constant_sum Zero = pos 0
constant_sum (Plus One c p) = c +ℤ constant_sum p
constant_sum (Plus (Times a m) c p) = constant_sum p

-- whether no monomial has an atom
abbrev pub is_constant : Polynomial → Bool
is_constant Zero = true
is_constant (Plus One c p) = is_constant p
is_constant (Plus (Times a m) c p) = false

-- whether the monomials with atoms, coefficients included, are the same
abbrev pub differ_by_constant : Polynomial → Polynomial → Bool
differ_by_constant i j = same_polynomial (part_with_atoms i) (part_with_atoms j)

-- whether an atom does not stand after the next one
abbrev pub atom_rises : Atom → Monomial → Bool
atom_rises a One = true
atom_rises a (Times b m) = is_le (cmp_atom a b)

-- whether a monomial stands before the next one
abbrev pub monomial_rises : Monomial → Polynomial → Bool
monomial_rises m Zero = true
monomial_rises m (Plus n d p) = is_lt (cmp_monomial m n)

-- whether one of the writes is at this index
abbrev pub is_written : Polynomial → Writes → Bool
is_written i NoWrites = false
is_written i (Write j v ws) = same_polynomial i j || is_written i ws

-- whether the next write's index is greater, where the two differ by a constant
abbrev pub write_rises : Polynomial → Writes → Bool
write_rises i NoWrites = true
write_rises i (Write j v ws) = not (differ_by_constant i j) || int_lt (constant_part i) (constant_part j)

-- the index of the last write, where the first one is at i
abbrev pub last_index : Polynomial → Writes → Polynomial
last_index i NoWrites = i
last_index i (Write j v ws) = last_index j ws

-- whether a read at an index stays an atom: of a bare symbol, or where the last write's index doesn't differ by a constant
abbrev pub stays_read : ArrayTerm → Polynomial → Bool
stays_read (Over base.Zero NoWrites) i = false
stays_read (Over (base.Sym p) NoWrites) i = true
stays_read (Over b (Write j v ws)) i = not (differ_by_constant (last_index j ws) i)

abbrev mutual
  -- its parts are in order, a read stays one, and no division is of two constants
  pub ordered_atom : Atom → Bool
  ordered_atom (Symbol p) = true
  ordered_atom (Read a i) = ordered_array a && ordered i && stays_read a i
  ordered_atom (Quotient a b) = ordered a && ordered b && not (is_constant a && is_constant b)
  ordered_atom (Remainder a b) = ordered a && ordered b && not (is_constant a && is_constant b)

  -- the atoms are in order and none stands after a later one
  pub ordered_monomial : Monomial → Bool
  ordered_monomial One = true
  ordered_monomial (Times a m) = ordered_atom a && atom_rises a m && ordered_monomial m

  -- the monomials are in order and rise, and no coefficient is 0
  pub ordered : Polynomial → Bool
  ordered Zero = true
  ordered (Plus m c p) = not (int_eq c (pos 0)) && ordered_monomial m && monomial_rises m p && ordered p

  -- the writes are tidy: no index is written again later, and neighbours whose indices differ by a constant rise
  pub ordered_writes : Writes → Bool
  ordered_writes NoWrites = true
  ordered_writes (Write i v ws) = ordered i && ordered v && not (is_written i ws) && write_rises i ws && ordered_writes ws

  -- the writes are tidy
  pub ordered_array : ArrayTerm → Bool
  ordered_array (Over b ws) = ordered_writes ws

-- whether a polynomial itself is within the limit of weight
abbrev pub is_light : Polynomial → Bool
is_light p = nat_le (weight_of p) weight_limit

abbrev mutual
  -- whether the polynomials in an atom are within the limit of weight
  pub narrow_atom : Atom → Bool
  narrow_atom (Symbol p) = true
  narrow_atom (Read a i) = narrow_array a && is_light i && narrow_inside i
  narrow_atom (Quotient a b) = is_light a && narrow_inside a && is_light b && narrow_inside b
  narrow_atom (Remainder a b) = is_light a && narrow_inside a && is_light b && narrow_inside b

  -- the same of a monomial
  pub narrow_monomial : Monomial → Bool
  narrow_monomial One = true
  narrow_monomial (Times a m) = narrow_atom a && narrow_monomial m

  -- the same of the polynomials inside a polynomial
  pub narrow_inside : Polynomial → Bool
  narrow_inside Zero = true
  narrow_inside (Plus m c p) = narrow_monomial m && narrow_inside p

  -- the same of writes
  pub narrow_writes : Writes → Bool
  narrow_writes NoWrites = true
  narrow_writes (Write i v ws) = is_light i && narrow_inside i && is_light v && narrow_inside v && narrow_writes ws

  -- the same of an array
  pub narrow_array : ArrayTerm → Bool
  narrow_array (Over b ws) = narrow_writes ws

-- whether a polynomial and each one inside it is within the limit of weight
abbrev pub narrow : Polynomial → Bool
narrow p = is_light p && narrow_inside p

-- a polynomial is normal and within the limits in all its parts
pub record IsNormal (p : Polynomial) : Type 0 where
  pub ordered : IsTrue (ordered p)
  pub small : size_of p ≤ size_limit
  pub shallow : depth_of p ≤ depth_limit
  pub narrow : IsTrue (narrow p)

-- an array is normal and within the limits in all its parts
pub record IsNormalArray (a : ArrayTerm) : Type 0 where
  pub ordered : IsTrue (ordered_array a)
  pub small : size_of_array a ≤ size_limit
  pub shallow : depth_of_array a ≤ depth_limit
  pub narrow : IsTrue (narrow_array a)
