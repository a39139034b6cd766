-- Lists of atoms, each once.
use Rattle.std.specs.Prelude.{◌≡◌, ℕ, cond, not, IsTrue, Bool, Option, List, [], ◌∷◌, ◌++◌}
use Rattle.std.specs.List.{list_any, position}
use Rattle.std.specs.Coded.{Coded, coded_list}
use Rattle.nf_trees.specs.NormalTerms.{Atom, Monomial, Polynomial, ArrayTerm, Writes, Symbol, Read, Quotient, Remainder, One}
use Rattle.nf_trees.specs.NormalTerms.{Times, Zero, Plus, Over, NoWrites, Write}
use Rattle.nf_trees.specs.Order.{same_atom}
use Rattle.nf_terms.specs.Codes.{coded_atom}

-- whether an atom is in a list
abbrev pub holds_atom : Atom → List Atom → Bool
holds_atom a kept = list_any (same_atom a) kept

-- the place of an atom in a list
abbrev pub atom_place : Atom → List Atom → Option ℕ
atom_place a kept = position (same_atom a) kept

-- a list with an atom last, unless it has it
abbrev pub with_one : Atom → List Atom → List Atom
with_one a kept = cond (holds_atom a kept) kept (kept ++ a ∷ [])

abbrev mutual
  -- a list with an atom, unless it has it: first the atoms in it, then the atom
  pub with_atom : Atom → List Atom → List Atom
  with_atom (Symbol p) kept = with_one (Symbol p) kept
  with_atom (Read a i) kept = cond (holds_atom (Read a i) kept) kept (with_one (Read a i) (with_terms i (with_array a kept)))
  with_atom (Quotient p q) kept = cond (holds_atom (Quotient p q) kept) kept
      (with_one (Quotient p q) (with_terms q (with_terms p kept)))
  with_atom (Remainder p q) kept = cond (holds_atom (Remainder p q) kept) kept
      (with_one (Remainder p q) (with_terms q (with_terms p kept)))

  -- the same of each atom of a monomial
  pub with_monomial : Monomial → List Atom → List Atom
  with_monomial One kept = kept
  with_monomial (Times a m) kept = with_monomial m (with_atom a kept)

  -- the same of each monomial of a polynomial
  pub with_terms : Polynomial → List Atom → List Atom
  with_terms Zero kept = kept
  with_terms (Plus m c p) kept = with_terms p (with_monomial m kept)

  -- the same of each index and each value
  pub with_writes : Writes → List Atom → List Atom
  with_writes NoWrites kept = kept
  with_writes (Write i v ws) kept = with_writes ws (with_terms v (with_terms i kept))

  -- the same of an array
  pub with_array : ArrayTerm → List Atom → List Atom
  with_array (Over b ws) kept = with_writes ws kept

-- a list with the atoms in an atom
abbrev pub with_inner : Atom → List Atom → List Atom
with_inner (Symbol p) kept = kept
with_inner (Read a i) kept = with_terms i (with_array a kept)
with_inner (Quotient p q) kept = with_terms q (with_terms p kept)
with_inner (Remainder p q) kept = with_terms q (with_terms p kept)

-- no atom stands twice
abbrev pub AreDifferent : List Atom → Type 0
AreDifferent [] = Unit {0}
AreDifferent (a ∷ rest) = IsTrue (not (holds_atom a rest)) × AreDifferent rest

-- what holds of a bank
pub record IsBank (atoms : List Atom) : Type 0 where
  pub different : AreDifferent atoms

-- a list that begins with another
pub record IsFront (front whole : List Atom) : Type 0 where
  pub rest : List Atom
  pub split : whole ≡ front ++ rest

abbrev pub coded_atoms : Coded (List Atom)
coded_atoms = coded_list coded_atom
