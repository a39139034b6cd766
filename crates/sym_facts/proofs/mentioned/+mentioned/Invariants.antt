use Rattle.std.proofs.Common.{◌≡◌, map, drop}
use Rattle.nf_trees.specs.NormalTerms.{monomial_of, polynomial_of, writes_of}
use Rattle.nf_trees.specs.View.{atom_in, term_in, write_in}
use Rattle.nf_terms.specs.Symbols.{symbols_of_monomial, symbols_of, symbols_of_writes}
use Rattle.sym_facts.specs.PositionSets.{with_symbols}
use Rattle.sym_facts.specs.View.{set_in}
use Rattle.sym_facts.proofs.mentioned.+mentioned.Given as goal

abbrev pub invariant-add_arr-loop-index : goal.invariant-add_arr-loop-index
invariant-add_arr-loop-index l =
    with_symbols (set_in l.mentioned) (symbols_of_writes (writes_of (map write_in (drop l.index-index l.index-items))))
    ≡ with_symbols (set_in l.initial.mentioned) (symbols_of_writes (writes_of (map write_in l.index-items)))

abbrev pub invariant-add_mono-loop-atom : goal.invariant-add_mono-loop-atom
invariant-add_mono-loop-atom l =
    with_symbols (set_in l.mentioned) (symbols_of_monomial (monomial_of (map atom_in (drop l.atom-index l.atom-items))))
    ≡ with_symbols (set_in l.initial.mentioned) (symbols_of_monomial (monomial_of (map atom_in l.atom-items)))

abbrev pub invariant-add_poly-loop-mono : goal.invariant-add_poly-loop-mono
invariant-add_poly-loop-mono l =
    with_symbols (set_in l.mentioned) (symbols_of (polynomial_of (map term_in (drop l.mono-index l.mono-items))))
    ≡ with_symbols (set_in l.initial.mentioned) (symbols_of (polynomial_of (map term_in l.mono-items)))
