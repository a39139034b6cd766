use Rattle.alike_searches.proofs.EvenTables.{first_is_even, next_is_even, even_tables}
use Rattle.alike_searches.proofs.table_laws.tables_of_alike_machines_are_even.Goals as goal

pub returns-clause-first : goal.returns-clause-first
returns-clause-first c = λ m pairs sound_left sound_right alike. first_is_even m sound_left sound_right pairs alike

pub returns-clause-change : goal.returns-clause-change
returns-clause-change c = λ m pairs T U x sound_left sound_right alike. next_is_even m sound_left sound_right pairs alike T U x

pub returns-clause-legal : goal.returns-clause-legal
returns-clause-legal c = λ m pairs moves T sound_left sound_right alike. even_tables m sound_left sound_right pairs alike moves T
