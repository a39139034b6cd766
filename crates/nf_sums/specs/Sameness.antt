-- When terms are the same, in whatever order they are written.
use Rattle.std.specs.Prelude.{◌≡◌, List, [], ◌∷◌}
use Rattle.nf_trees.specs.NormalTerms.{Atom, Monomial, Polynomial, ArrayTerm, Writes, Symbol, Read, Quotient, Remainder, One}
use Rattle.nf_trees.specs.NormalTerms.{Times, Zero, Plus, Over, NoWrites, Write}
use Rattle.nf_terms.specs.Lists.{ListTerm}
use Rattle.nf_terms.specs.Normal.{IsNormal}
use Rattle.nf_terms.specs.RawSums.{total}
use Rattle.nf_terms.specs.Tidied.{tidy_array}
use Rattle.nf_sums.specs.RawSumForms.{normal_form}

abbrev mutual
  -- an atom, with the normal forms of its parts
  pub settled_atom : Atom → Atom
  settled_atom (Symbol p) = Symbol p
  settled_atom (Read a i) = Read (settled_array a) (normal_form (settled i))
  settled_atom (Quotient p q) = Quotient (normal_form (settled p)) (normal_form (settled q))
  settled_atom (Remainder p q) = Remainder (normal_form (settled p)) (normal_form (settled q))

  -- the same of each atom
  pub settled_monomial : Monomial → Monomial
  settled_monomial One = One
  settled_monomial (Times a m) = Times (settled_atom a) (settled_monomial m)

  -- the same of each atom; the monomials stand as before
  pub settled : Polynomial → Polynomial
  settled Zero = Zero
  settled (Plus m c p) = Plus (settled_monomial m) c (settled p)

  -- the normal form of each index and of each value
  pub settled_writes : Writes → Writes
  settled_writes NoWrites = NoWrites
  settled_writes (Write i v ws) = Write (normal_form (settled i)) (normal_form (settled v)) (settled_writes ws)

  -- the tidied form over the normal forms of indices and values
  pub settled_array : ArrayTerm → ArrayTerm
  settled_array (Over b ws) = tidy_array (Over b (settled_writes ws))

-- raw sums: every bag of atoms has the same total coefficient in both, where atoms that are the same count as one
pub record SameSum (p q : Polynomial) : Type 0 where
  pub totals : (bag : Monomial) → total bag (settled p) ≡ total bag (settled q)

-- a normal sum that is the same as a raw sum
pub record IsFormOf (p raw : Polynomial) : Type 0 where
  pub normal : IsNormal p
  pub same : SameSum p raw

-- arrays: the tidied forms have one base and agree write by write
pub record SameArray (a b : ArrayTerm) : Type 0 where
  pub forms : settled_array a ≡ settled_array b

-- atoms: of one kind, and their parts are the same
abbrev pub SameAtom : Atom → Atom → Type 0
SameAtom (Symbol p) (Symbol q) = p ≡ q
SameAtom (Symbol p) (Read b j) = ⊥
SameAtom (Symbol p) (Quotient r s) = ⊥
SameAtom (Symbol p) (Remainder r s) = ⊥
SameAtom (Read a i) (Symbol q) = ⊥
SameAtom (Read a i) (Read b j) = SameArray a b × SameSum i j
SameAtom (Read a i) (Quotient r s) = ⊥
SameAtom (Read a i) (Remainder r s) = ⊥
SameAtom (Quotient p q) (Symbol s) = ⊥
SameAtom (Quotient p q) (Read b j) = ⊥
SameAtom (Quotient p q) (Quotient r s) = SameSum p r × SameSum q s
SameAtom (Quotient p q) (Remainder r s) = ⊥
SameAtom (Remainder p q) (Symbol s) = ⊥
SameAtom (Remainder p q) (Read b j) = ⊥
SameAtom (Remainder p q) (Quotient r s) = ⊥
SameAtom (Remainder p q) (Remainder r s) = SameSum p r × SameSum q s

-- items: as many, and the same place by place
abbrev pub SameItems : List Polynomial → List Polynomial → Type 0
SameItems [] [] = Unit {0}
SameItems [] (q ∷ qs) = ⊥
SameItems (p ∷ ps) [] = ⊥
SameItems (p ∷ ps) (q ∷ qs) = SameSum p q × SameItems ps qs

-- lists: one base, and the items are the same
pub record SameList (l m : ListTerm) : Type 0 where
  pub bases : l.base ≡ m.base
  pub items : SameItems l.items m.items
