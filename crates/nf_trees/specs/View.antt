-- The term that a tree holds.
use Rattle.std.specs.Prelude.{ℤ}
use Rattle.nf_trees.specs.NormalTerms.{Atom, Monomial, Polynomial, ArrayTerm, Symbol, Read, Quotient, Remainder, Over}
use Rattle.nf_trees.specs.NormalTerms.{monomial_of, polynomial_of, writes_of}
use Rattle.nf_trees.specs.declared.tree.Atom.{Atom as AtomTree}
use Rattle.nf_trees.specs.declared.tree.MonoTree.{MonoTree}
use Rattle.nf_trees.specs.declared.tree.PolyTree.{PolyTree}
use Rattle.nf_trees.specs.declared.tree.ArrTree.{ArrTree}
use Rattle.nf_trees.specs.declared.tree.Atom.TheOpen.{Atom-F, MonoTree-F, PolyTree-F, ArrTree-F}
use Rattle.nf_trees.specs.declared.tree.Atom.TheOpen as open_tree
use Rattle.nf_trees.specs.declared.tree.Atom.TheFolds.{fold-Atom, fold-MonoTree, fold-PolyTree, fold-ArrTree}

-- an atom, from its parts' terms
abbrev pub atom_step : Atom-F Atom ArrayTerm Monomial Polynomial → Atom
atom_step (open_tree.Sym p) = Symbol p
atom_step (open_tree.Read a i) = Read a.value i.value
atom_step (open_tree.Div a b) = Quotient a.value b.value
atom_step (open_tree.Rem a b) = Remainder a.value b.value

-- a monomial, from its atoms
abbrev pub mono_step : MonoTree-F Atom ArrayTerm Monomial Polynomial → Monomial
mono_step m = monomial_of m.atoms.items

-- a polynomial, from its monomials and coefficients
abbrev pub poly_step : PolyTree-F Atom ArrayTerm Monomial Polynomial → Polynomial
poly_step p = polynomial_of p.monos.items

-- an array, from its base and its writes
abbrev pub arr_step : ArrTree-F Atom ArrayTerm Monomial Polynomial → ArrayTerm
arr_step a = Over a.base (writes_of a.writes.items)

-- the atom of a tree
abbrev pub atom_in : AtomTree → Atom
atom_in = fold-Atom Atom ArrayTerm Monomial Polynomial atom_step arr_step mono_step poly_step

-- the monomial of a tree
abbrev pub monomial_in : MonoTree → Monomial
monomial_in = fold-MonoTree Atom ArrayTerm Monomial Polynomial atom_step arr_step mono_step poly_step

-- the polynomial of a tree
abbrev pub polynomial_in : PolyTree → Polynomial
polynomial_in = fold-PolyTree Atom ArrayTerm Monomial Polynomial atom_step arr_step mono_step poly_step

-- the array of a tree
abbrev pub array_in : ArrTree → ArrayTerm
array_in = fold-ArrTree Atom ArrayTerm Monomial Polynomial atom_step arr_step mono_step poly_step

-- a monomial and its coefficient
abbrev pub term_in : MonoTree × ℤ → Monomial × ℤ
term_in t = (monomial_in t.0, t.1)

-- the index and the value of a write
abbrev pub write_in : PolyTree × PolyTree → Polynomial × Polynomial
write_in w = (polynomial_in w.0, polynomial_in w.1)
