use Rattle.std.proofs.Common.{◌≡◌, map, drop}
use Rattle.nf_trees.specs.NormalTerms.{monomial_of}
use Rattle.nf_trees.specs.View.{atom_in, monomial_in}
use Rattle.nf_bank.specs.Atoms.{with_monomial, IsFront}
use Rattle.nf_substitution.proofs.kept_atoms.put_monomial.Given as goal

abbrev pub invariant-loop-atom : goal.invariant-loop-atom
invariant-loop-atom l = record {
  kept : with_monomial (monomial_of (map atom_in (drop l.atom-index l.atom-items))) l.bank ≡ with_monomial (monomial_in l.mono) l.initial.bank;
  front : IsFront l.initial.bank l.bank;
}
