use Rattle.std.proofs.Common.{◌≡◌, map, drop}
use Rattle.nf_trees.specs.NormalTerms.{polynomial_of}
use Rattle.nf_trees.specs.View.{polynomial_in, term_in}
use Rattle.nf_bank.specs.Atoms.{with_terms, IsFront}
use Rattle.nf_substitution.proofs.kept_atoms.put_terms.Given as goal

abbrev pub invariant-loop-mono : goal.invariant-loop-mono
invariant-loop-mono l = record {
  kept : with_terms (polynomial_of (map term_in (drop l.mono-index l.mono-items))) l.bank ≡ with_terms (polynomial_in l.poly) l.initial.bank;
  front : IsFront l.initial.bank l.bank;
}
