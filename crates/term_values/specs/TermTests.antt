-- A test of what a value of the code holds.
use Rattle.std.specs.Prelude.{Bool}
use Rattle.term_text.specs.View.{written_polynomial_in, written_array_in, written_list_in}
use Rattle.term_condition_text.specs.View.{condition_in}
use Rattle.term_values.specs.declared.faults.WrittenTerm.{WrittenTerm}
use Rattle.term_values.specs.declared.faults.WrittenTerm.TheVariants as written
use Rattle.term_values.specs.Checks.{Test, polynomial_passes, array_passes, list_passes}
use Rattle.term_values.specs.Conditions.{written_condition_passes}

abbrev pub written_passes : Test → WrittenTerm → Bool
written_passes t (written.Polynomial p) = polynomial_passes t (written_polynomial_in p.now)
written_passes t (written.Array a) = array_passes t (written_array_in a.now)
written_passes t (written.List l) = list_passes t (written_list_in l.now)
written_passes t (written.Condition c) = written_condition_passes t (condition_in c.now)
