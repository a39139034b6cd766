use Rattle.std.proofs.Common.{◌≡◌, map, drop}
use Rattle.nf_trees.specs.NormalTerms.{monomial_of}
use Rattle.nf_trees.specs.View.{atom_in, monomial_in}
use Rattle.nf_substitution.specs.StayingTerms.{atoms_stay}
use Rattle.nf_substitution.proofs.staying.atoms_stay.Given as goal

abbrev pub invariant-loop-atom : goal.invariant-loop-atom
invariant-loop-atom l = atoms_stay l.v (monomial_of (map atom_in (drop l.atom-index l.atom-items))) ≡ atoms_stay l.v (monomial_in l.mono)
