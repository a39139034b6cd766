-- What a tree that is made of its parts stands for.
use Rattle.std.proofs.Common.{◌≡◌, ◌⊎◌, inl, inr, Box, Global, map, ap, sym, ◌∙◌}
use Rattle.nf_trees.specs.NormalTerms.{Atom, ArrayTerm, Monomial, Polynomial, Symbol, Read, Quotient, Remainder, Over, polynomial_of, writes_of}
use Rattle.nf_trees.specs.View.{atom_in, polynomial_in, array_in, term_in, write_in, atom_step, arr_step, mono_step, poly_step}
use Rattle.fs_model.specs.declared.sides.Pos.{Pos}
use Rattle.nf_trees.specs.declared.tree.Atom.{Atom as AtomTree}
use Rattle.nf_trees.specs.declared.tree.MonoTree.{MonoTree}
use Rattle.nf_trees.specs.declared.tree.PolyTree.{PolyTree, roll-PolyTree}
use Rattle.nf_trees.specs.declared.tree.ArrTree.{ArrTree, roll-ArrTree}
use Rattle.nf_trees.specs.declared.tree.Atom.TheOpen as open_tree
use Rattle.nf_trees.specs.declared.tree.Atom.TheVariants as tree
use Rattle.nf_trees.specs.declared.tree.Atom.TheFolds.{fold-roll-Atom, fold-roll-PolyTree, fold-roll-ArrTree}

pub atom_of_symbol : (t : AtomTree) (p : Pos) → t ≡ tree.Sym p → atom_in t ≡ Symbol p
atom_of_symbol t p e =
    ap atom_in (e ∙ sym (tree.rolls-Sym p))
    ∙ fold-roll-Atom Atom ArrayTerm Monomial Polynomial atom_step arr_step mono_step poly_step (open_tree.Sym p)

pub atom_of_read : (t : AtomTree) (a : Box ArrTree Global) (i : Box PolyTree Global) → t ≡ tree.Read a i
    → atom_in t ≡ Read (array_in a.value) (polynomial_in i.value)
atom_of_read t a i e =
    ap atom_in (e ∙ sym (tree.rolls-Read a i))
    ∙ fold-roll-Atom Atom ArrayTerm Monomial Polynomial atom_step arr_step mono_step poly_step (open_tree.Read a i)

pub atom_of_quotient : (t : AtomTree) (l r : Box PolyTree Global) → t ≡ tree.Div l r
    → atom_in t ≡ Quotient (polynomial_in l.value) (polynomial_in r.value)
atom_of_quotient t l r e =
    ap atom_in (e ∙ sym (tree.rolls-Div l r))
    ∙ fold-roll-Atom Atom ArrayTerm Monomial Polynomial atom_step arr_step mono_step poly_step (open_tree.Div l r)

pub atom_of_remainder : (t : AtomTree) (l r : Box PolyTree Global) → t ≡ tree.Rem l r
    → atom_in t ≡ Remainder (polynomial_in l.value) (polynomial_in r.value)
atom_of_remainder t l r e =
    ap atom_in (e ∙ sym (tree.rolls-Rem l r))
    ∙ fold-roll-Atom Atom ArrayTerm Monomial Polynomial atom_step arr_step mono_step poly_step (open_tree.Rem l r)

-- what is the same of a quotient and of a remainder
pub of_division : {X : Type 0} (f : Atom → X) (t : AtomTree) (l r : Box PolyTree Global)
    → f (Remainder (polynomial_in l.value) (polynomial_in r.value)) ≡ f (Quotient (polynomial_in l.value) (polynomial_in r.value))
    → (t ≡ tree.Div l r) ⊎ (t ≡ tree.Rem l r) → f (atom_in t) ≡ f (Quotient (polynomial_in l.value) (polynomial_in r.value))
of_division f t l r same (inl e) = ap f (atom_of_quotient t l r e)
of_division f t l r same (inr e) = ap f (atom_of_remainder t l r e) ∙ same

pub polynomial_of_terms : (d : open_tree.PolyTree-F AtomTree ArrTree MonoTree PolyTree)
    → polynomial_in (roll-PolyTree d) ≡ polynomial_of (map term_in d.monos.items)
polynomial_of_terms = fold-roll-PolyTree Atom ArrayTerm Monomial Polynomial atom_step arr_step mono_step poly_step

pub array_over_writes : (d : open_tree.ArrTree-F AtomTree ArrTree MonoTree PolyTree)
    → array_in (roll-ArrTree d) ≡ Over d.base (writes_of (map write_in d.writes.items))
array_over_writes = fold-roll-ArrTree Atom ArrayTerm Monomial Polynomial atom_step arr_step mono_step poly_step
