-- What numbers stand for over a list of atoms.
use Rattle.std.specs.Prelude.{◌≡◌, ℕ, ◌+◌, ◌≤◌, max, ℤ, List, [], ◌∷◌, length, map, get_or}
use Rattle.nf_trees.specs.NormalTerms.{Atom, Monomial, Polynomial, ArrayTerm, Symbol, Read, Quotient, Remainder, Over}
use Rattle.nf_trees.specs.NormalTerms.{monomial_of, polynomial_of, writes_of}
use Rattle.fs_model.specs.declared.sides.Side.TheVariants.{Left}
use Rattle.nf_bank.specs.declared.node.AtomId.{AtomId}
use Rattle.nf_bank.specs.declared.node.Term.{Term}
use Rattle.nf_bank.specs.declared.node.Write.{Write}
use Rattle.nf_bank.specs.declared.node.Array.{Array}
use Rattle.nf_bank.specs.declared.node.Node.{Node}
use Rattle.nf_bank.specs.declared.node.Node.TheVariants as node

-- ---- bounds: the least number above all numbers in a part

abbrev pub bound_over : {T : Type 0} → (T → ℕ) → List T → ℕ
bound_over bound [] = 0
bound_over bound (x ∷ xs) = max (bound x) (bound_over bound xs)

abbrev pub bound_of_number : AtomId → ℕ
bound_of_number i = i.0 + 1

abbrev pub bound_of_term : Term → ℕ
bound_of_term t = bound_over bound_of_number t.atoms

abbrev pub bound_of_sum : List Term → ℕ
bound_of_sum s = bound_over bound_of_term s

abbrev pub bound_of_write : Write → ℕ
bound_of_write w = max (bound_of_sum w.index) (bound_of_sum w.value)

abbrev pub bound_of_array : Array → ℕ
bound_of_array a = bound_over bound_of_write a.writes

abbrev pub bound_of_node : Node → ℕ
bound_of_node (node.Sym p) = 0
bound_of_node (node.Read a i) = max (bound_of_array a) (bound_of_sum i)
bound_of_node (node.Div p q) = max (bound_of_sum p) (bound_of_sum q)
bound_of_node (node.Rem p q) = max (bound_of_sum p) (bound_of_sum q)

-- ---- terms over a list of atoms

-- an atom that stands past the end of each list
abbrev pub past_end : Atom
past_end = Symbol (record { side = Left; var = 0 })

-- the atom at a place
abbrev pub atom_at : List Atom → ℕ → Atom
atom_at atoms k = get_or atoms k past_end

-- the atom of a number
abbrev pub atom_of_number : List Atom → AtomId → Atom
atom_of_number atoms i = atom_at atoms i.0

abbrev pub monomial_over : List Atom → List AtomId → Monomial
monomial_over atoms ids = monomial_of (map (atom_of_number atoms) ids)

-- a monomial with its coefficient
abbrev pub scaled_monomial_over : List Atom → Term → Monomial × ℤ
scaled_monomial_over atoms t = (monomial_over atoms t.atoms, t.coefficient)

abbrev pub sum_over : List Atom → List Term → Polynomial
sum_over atoms s = polynomial_of (map (scaled_monomial_over atoms) s)

-- an index and a value
abbrev pub write_over : List Atom → Write → Polynomial × Polynomial
write_over atoms w = (sum_over atoms w.index, sum_over atoms w.value)

abbrev pub array_over : List Atom → Array → ArrayTerm
array_over atoms a = Over a.base (writes_of (map (write_over atoms) a.writes))

abbrev pub atom_over : List Atom → Node → Atom
atom_over atoms (node.Sym p) = Symbol p
atom_over atoms (node.Read a i) = Read (array_over atoms a) (sum_over atoms i)
atom_over atoms (node.Div p q) = Quotient (sum_over atoms p) (sum_over atoms q)
atom_over atoms (node.Rem p q) = Remainder (sum_over atoms p) (sum_over atoms q)

-- ---- numbers spell a term: all are of atoms, over which they are the term

pub record SpellsOverAtoms {N V : Type 0} (bound : N → ℕ) (over : List Atom → N → V) (atoms : List Atom) (numbers : N)
    (term : V) : Type 0 where
  pub within : bound numbers ≤ length atoms
  pub is : over atoms numbers ≡ term

abbrev pub SpellsMonomial : List Atom → List AtomId → Monomial → Type 0
SpellsMonomial atoms ids m = SpellsOverAtoms (bound_over bound_of_number) monomial_over atoms ids m

abbrev pub SpellsSum : List Atom → List Term → Polynomial → Type 0
SpellsSum atoms s p = SpellsOverAtoms bound_of_sum sum_over atoms s p

abbrev pub SpellsArray : List Atom → Array → ArrayTerm → Type 0
SpellsArray atoms a b = SpellsOverAtoms bound_of_array array_over atoms a b

abbrev pub SpellsAtom : List Atom → Node → Atom → Type 0
SpellsAtom atoms n a = SpellsOverAtoms bound_of_node atom_over atoms n a
