-- The two machines of src/ as plain data.
use Rattle.search_tables.specs.SearchTables.{MachinePair}
use Rattle.search_worklist.specs.declared.sides.Sides.{Sides}

abbrev pub machines_in : Sides → MachinePair
machines_in s = record { left = s.left.now; right = s.right.now }
