-- Whether the atoms of a term are in a list.
use Rattle.std.specs.Prelude.{◌≡◌, Bool, true, ◌&&◌, List}
use Rattle.nf_trees.specs.NormalTerms.{Atom, Monomial, Polynomial, ArrayTerm, Writes, Symbol, Read, Quotient, Remainder, One}
use Rattle.nf_trees.specs.NormalTerms.{Times, Zero, Plus, Over, NoWrites, Write}
use Rattle.nf_bank.specs.Atoms.{holds_atom}

-- each atom of a monomial
abbrev pub holds_monomial : Monomial → List Atom → Bool
holds_monomial One kept = true
holds_monomial (Times a m) kept = holds_atom a kept && holds_monomial m kept

-- each atom of each monomial
abbrev pub holds_terms : Polynomial → List Atom → Bool
holds_terms Zero kept = true
holds_terms (Plus m c p) kept = holds_monomial m kept && holds_terms p kept

-- the same of each index and each value
abbrev pub holds_writes : Writes → List Atom → Bool
holds_writes NoWrites kept = true
holds_writes (Write i v ws) kept = holds_terms i kept && holds_terms v kept && holds_writes ws kept

abbrev pub holds_array : ArrayTerm → List Atom → Bool
holds_array (Over b ws) kept = holds_writes ws kept

-- the same of what is in an atom
abbrev pub holds_inner : Atom → List Atom → Bool
holds_inner (Symbol p) kept = true
holds_inner (Read a i) kept = holds_array a kept && holds_terms i kept
holds_inner (Quotient p q) kept = holds_terms p kept && holds_terms q kept
holds_inner (Remainder p q) kept = holds_terms p kept && holds_terms q kept

-- with each atom the atoms in it are there
pub record IsClosedUnderAtoms (kept : List Atom) : Type 0 where
  pub inner : (a : Atom) → holds_atom a kept ≡ true → holds_inner a kept ≡ true
