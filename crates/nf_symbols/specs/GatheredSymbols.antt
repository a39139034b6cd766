-- The symbols of a term behind others: a list that goes from part to part.
use Rattle.std.specs.Prelude.{List, [], ◌∷◌, ◌++◌}
use Rattle.nf_trees.specs.NormalTerms.{Atom, Monomial, Polynomial, ArrayTerm, Writes, Symbol, Read, Quotient, Remainder, One}
use Rattle.nf_trees.specs.NormalTerms.{Times, Zero, Plus, Over, NoWrites, Write}
use Rattle.nf_terms.specs.Symbols.{symbols_of_base}
use Rattle.fs_model.specs.declared.sides.Pos.{Pos}
use Rattle.nf_terms.specs.declared.symbols.Sort.{Sort}
use Rattle.nf_terms.specs.declared.symbols.Sort.TheVariants.{Scalar}

abbrev mutual
  pub with_atom : List (Pos × Sort) → Atom → List (Pos × Sort)
  with_atom l (Symbol p) = l ++ (p, Scalar) ∷ []
  with_atom l (Read a i) = with_polynomial (with_array l a) i
  with_atom l (Quotient a b) = with_polynomial (with_polynomial l a) b
  with_atom l (Remainder a b) = with_polynomial (with_polynomial l a) b

  pub with_monomial : List (Pos × Sort) → Monomial → List (Pos × Sort)
  with_monomial l One = l
  with_monomial l (Times a m) = with_monomial (with_atom l a) m

  pub with_polynomial : List (Pos × Sort) → Polynomial → List (Pos × Sort)
  with_polynomial l Zero = l
  with_polynomial l (Plus m c p) = with_polynomial (with_monomial l m) p

  pub with_writes : List (Pos × Sort) → Writes → List (Pos × Sort)
  with_writes l NoWrites = l
  with_writes l (Write i v ws) = with_writes (with_polynomial (with_polynomial l i) v) ws

  pub with_array : List (Pos × Sort) → ArrayTerm → List (Pos × Sort)
  with_array l (Over b ws) = with_writes (l ++ symbols_of_base b) ws
