use Rattle.std.proofs.Common.{◌≡◌, ◌++◌, map, drop}
use Rattle.nf_trees.specs.NormalTerms.{monomial_of, polynomial_of, writes_of}
use Rattle.nf_trees.specs.View.{atom_in, monomial_in, term_in, write_in, array_in, polynomial_in}
use Rattle.term_writer.specs.Direct.{monomial_direct, polynomial_direct, atoms_direct, terms_direct, writes_direct, array_direct}
use Rattle.term_writer.proofs.terms.+writer.Given as goal

abbrev pub invariant-put_monomial-loop-atom : goal.invariant-put_monomial-loop-atom
invariant-put_monomial-loop-atom g l = l.out.items ++ atoms_direct (g.N.PositionNames.name l.names) l.is_first
    (monomial_of (map atom_in (drop l.atom-index l.atom-items))) ≡ l.fn.out.items
    ++ monomial_direct (g.N.PositionNames.name l.names) l.number (monomial_in l.mono)

abbrev pub invariant-put_polynomial-loop-mono : goal.invariant-put_polynomial-loop-mono
invariant-put_polynomial-loop-mono g l = l.out.items
    ++ terms_direct (g.N.PositionNames.name l.names) l.is_first (polynomial_of (map term_in (drop l.mono-index l.mono-items))) ≡ l.fn.out.items
    ++ polynomial_direct (g.N.PositionNames.name l.names) (polynomial_in l.polynomial)

abbrev pub invariant-put_array-loop-index : goal.invariant-put_array-loop-index
invariant-put_array-loop-index g l = l.out.items ++ writes_direct (g.N.PositionNames.name l.names) (writes_of (map write_in (drop l.index-index l.index-items)))
    ≡ l.fn.out.items ++ array_direct (g.N.PositionNames.name l.names) (array_in l.array)
