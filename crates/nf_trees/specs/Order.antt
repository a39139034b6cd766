-- The order of terms.
use Rattle.std.specs.Prelude.{ℕ, ◌+◌, Bool}
use Rattle.std.specs.declared.cmp.Ordering.{Ordering}
use Rattle.std.specs.declared.cmp.Ordering.TheVariants.{Less, Equal, Greater}
use Rattle.std.specs.Ordering.{nat_cmp, int_cmp, ordering_then, is_eq}
use Rattle.nf_trees.specs.NormalTerms.{Atom, Monomial, Polynomial, ArrayTerm, Writes, Symbol, Read, Quotient, Remainder, One}
use Rattle.nf_trees.specs.NormalTerms.{Times, Zero, Plus, Over, NoWrites, Write}
use Rattle.fs_model.specs.declared.sides.Side.{Side}
use Rattle.fs_model.specs.declared.sides.Side.TheVariants.{Left, Right}
use Rattle.fs_model.specs.declared.sides.Pos.{Pos}
use Rattle.nf_trees.specs.declared.tree.Base.{Base}
use Rattle.nf_trees.specs.declared.tree.Base.TheVariants as base

-- left before right
abbrev pub cmp_side : Side → Side → Ordering
cmp_side Left Left = Equal
cmp_side Left Right = Less
cmp_side Right Left = Greater
cmp_side Right Right = Equal

-- by side, then by the variable's number
abbrev pub cmp_pos : Pos → Pos → Ordering
cmp_pos p q = ordering_then (cmp_side p.side q.side) (nat_cmp p.var q.var)

-- zero before a symbol
abbrev pub cmp_base : Base → Base → Ordering
cmp_base base.Zero base.Zero = Equal
cmp_base base.Zero (base.Sym q) = Less
cmp_base (base.Sym p) base.Zero = Greater
cmp_base (base.Sym p) (base.Sym q) = cmp_pos p q

-- how many atoms a monomial has
abbrev pub degree : Monomial → ℕ
degree One = 0
degree (Times a m) = 1 + degree m

abbrev mutual
  -- symbols, reads, quotients, remainders; within a kind by their parts in order
  pub cmp_atom : Atom → Atom → Ordering
  cmp_atom (Symbol p) (Symbol q) = cmp_pos p q
  cmp_atom (Symbol p) (Read b j) = Less
  cmp_atom (Symbol p) (Quotient c d) = Less
  cmp_atom (Symbol p) (Remainder c d) = Less
  cmp_atom (Read a i) (Symbol q) = Greater
  cmp_atom (Read a i) (Read b j) = ordering_then (cmp_array a b) (cmp_polynomial i j)
  cmp_atom (Read a i) (Quotient c d) = Less
  cmp_atom (Read a i) (Remainder c d) = Less
  cmp_atom (Quotient a b) (Symbol q) = Greater
  cmp_atom (Quotient a b) (Read e j) = Greater
  cmp_atom (Quotient a b) (Quotient c d) = ordering_then (cmp_polynomial a c) (cmp_polynomial b d)
  cmp_atom (Quotient a b) (Remainder c d) = Less
  cmp_atom (Remainder a b) (Symbol q) = Greater
  cmp_atom (Remainder a b) (Read e j) = Greater
  cmp_atom (Remainder a b) (Quotient c d) = Greater
  cmp_atom (Remainder a b) (Remainder c d) = ordering_then (cmp_polynomial a c) (cmp_polynomial b d)

  -- atom by atom, a beginning of the other first
  pub cmp_atoms : Monomial → Monomial → Ordering
  cmp_atoms One One = Equal
  cmp_atoms One (Times b n) = Less
  cmp_atoms (Times a m) One = Greater
  cmp_atoms (Times a m) (Times b n) = ordering_then (cmp_atom a b) (cmp_atoms m n)

  -- the list of monomials, each before its coefficient, a beginning of the other first
  pub cmp_polynomial : Polynomial → Polynomial → Ordering
  cmp_polynomial Zero Zero = Equal
  cmp_polynomial Zero (Plus n d q) = Less
  cmp_polynomial (Plus m c p) Zero = Greater
  cmp_polynomial (Plus m c p) (Plus n d q) =
      ordering_then (ordering_then (nat_cmp (degree n) (degree m)) (cmp_atoms m n))
      (ordering_then (int_cmp c d) (cmp_polynomial p q))

  -- write by write, each index before its value, a beginning of the other first
  pub cmp_writes : Writes → Writes → Ordering
  cmp_writes NoWrites NoWrites = Equal
  cmp_writes NoWrites (Write j w vs) = Less
  cmp_writes (Write i v ws) NoWrites = Greater
  cmp_writes (Write i v ws) (Write j w vs) =
      ordering_then (cmp_polynomial i j) (ordering_then (cmp_polynomial v w) (cmp_writes ws vs))

  -- the base, then the writes
  pub cmp_array : ArrayTerm → ArrayTerm → Ordering
  cmp_array (Over a ws) (Over b vs) = ordering_then (cmp_base a b) (cmp_writes ws vs)

-- the monomial with more atoms first; of as many, atom by atom
abbrev pub cmp_monomial : Monomial → Monomial → Ordering
cmp_monomial m n = ordering_then (nat_cmp (degree n) (degree m)) (cmp_atoms m n)

-- whether two atoms are the same
abbrev pub same_atom : Atom → Atom → Bool
same_atom a b = is_eq (cmp_atom a b)

-- whether two monomials are the same
abbrev pub same_monomial : Monomial → Monomial → Bool
same_monomial m n = is_eq (cmp_monomial m n)

-- whether two polynomials are the same
abbrev pub same_polynomial : Polynomial → Polynomial → Bool
same_polynomial p q = is_eq (cmp_polynomial p q)
