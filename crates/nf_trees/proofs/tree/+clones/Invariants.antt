use Rattle.std.proofs.Common.{◌≡◌, ◌++◌, map, drop}
use Rattle.nf_trees.specs.NormalTerms.{monomial_of, polynomial_of, writes_of, Over}
use Rattle.nf_trees.specs.View.{atom_in, polynomial_in, monomial_in, array_in, term_in, write_in}
use Rattle.nf_trees.specs.declared.tree.ArrTree.{out-ArrTree}
use Rattle.nf_trees.proofs.tree.+clones.Given as goal

abbrev pub invariant-ArrTree::try_clone-loop-index : goal.invariant-ArrTree::try_clone-loop-index
invariant-ArrTree::try_clone-loop-index l =
    Over (out-ArrTree l.self).base (writes_of (map write_in l.writes.items ++ map write_in (drop l.index-index l.index-items))) ≡ array_in l.self

abbrev pub invariant-MonoTree::try_clone-loop-atom : goal.invariant-MonoTree::try_clone-loop-atom
invariant-MonoTree::try_clone-loop-atom l =
    monomial_of (map atom_in l.atoms.items ++ map atom_in (drop l.atom-index l.atom-items)) ≡ monomial_in l.self

abbrev pub invariant-PolyTree::try_clone-loop-mono : goal.invariant-PolyTree::try_clone-loop-mono
invariant-PolyTree::try_clone-loop-mono l =
    polynomial_of (map term_in l.monos.items ++ map term_in (drop l.mono-index l.mono-items)) ≡ polynomial_in l.self
