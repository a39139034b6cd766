use Rattle.std.proofs.Common.{◌≡◌, map, drop}
use Rattle.term_text.specs.View.{written_atom_in, written_monomial_in, written_polynomial_in, written_array_in, written_term_in, written_write_in}
use Rattle.term_values.specs.Checks.{monomial_passes, polynomial_passes, array_passes}
use Rattle.term_values.specs.ListParts.{atoms_pass, monomials_pass, writes_pass}
use Rattle.term_values.proofs.checks.+checks.Given as goal

abbrev pub invariant-monomial_passes-loop-atom : goal.invariant-monomial_passes-loop-atom
invariant-monomial_passes-loop-atom g l = monomial_passes (g.C.Check.test l.check) (written_monomial_in l.monomial)
    ≡ atoms_pass (g.C.Check.test l.check) (map written_atom_in (drop l.atom-index l.atom-items))

abbrev pub invariant-polynomial_passes-loop-minus : goal.invariant-polynomial_passes-loop-minus
invariant-polynomial_passes-loop-minus g l = polynomial_passes (g.C.Check.test l.check) (written_polynomial_in l.polynomial)
    ≡ monomials_pass (g.C.Check.test l.check) (map written_term_in (drop l._minus-index l._minus-items))

abbrev pub invariant-array_passes-loop-index : goal.invariant-array_passes-loop-index
invariant-array_passes-loop-index g l = array_passes (g.C.Check.test l.check) (written_array_in l.array)
    ≡ writes_pass (g.C.Check.test l.check) (map written_write_in (drop l.index-index l.index-items))
