use Rattle.std.proofs.Common.{◌≡◌, map, drop}
use Rattle.nf_trees.specs.NormalTerms.{monomial_of, polynomial_of, writes_of}
use Rattle.nf_trees.specs.View.{atom_in, polynomial_in, monomial_in, array_in, term_in, write_in}
use Rattle.nf_trees.specs.Mentions.{mentions_monomial, mentions, mentions_writes, mentions_array}
use Rattle.nf_trees.proofs.mentions.+names.Given as goal

abbrev pub invariant-arr_mentions-loop-index : goal.invariant-arr_mentions-loop-index
invariant-arr_mentions-loop-index l =
    mentions_writes l.p (writes_of (map write_in (drop l.index-index l.index-items))) ≡ mentions_array l.p (array_in l.arr)

abbrev pub invariant-mono_mentions-loop-atom : goal.invariant-mono_mentions-loop-atom
invariant-mono_mentions-loop-atom l =
    mentions_monomial l.p (monomial_of (map atom_in (drop l.atom-index l.atom-items))) ≡ mentions_monomial l.p (monomial_in l.mono)

abbrev pub invariant-poly_mentions-loop-mono : goal.invariant-poly_mentions-loop-mono
invariant-poly_mentions-loop-mono l =
    mentions l.p (polynomial_of (map term_in (drop l.mono-index l.mono-items))) ≡ mentions l.p (polynomial_in l.poly)
