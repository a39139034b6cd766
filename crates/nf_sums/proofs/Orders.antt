-- The orders of terms.
use Rattle.nf_trees.specs.Comparison.{atoms_total, monomials_total, polynomials_total, arrays_total}
use Rattle.nf_terms.specs.ListComparison.{lists_total, list_ties}
use Rattle.nf_trees.specs.TermKeys.{atom_ties, monomial_ties, polynomial_ties, array_ties}

pub ruleset totals = (atoms_total, monomials_total, polynomials_total, arrays_total, lists_total)

pub ruleset ties = (atom_ties, monomial_ties, polynomial_ties, array_ties, list_ties)
