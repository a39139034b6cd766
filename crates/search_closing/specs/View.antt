-- The types of src/ as plain data.
use Rattle.std.specs.Prelude.{ℕ, List, [], ◌∷◌, Option, Some, None}
use Rattle.search_tables.specs.SearchTables.{MachinePair}
use Rattle.search_closing.specs.declared.covered.Covered.{Covered}

abbrev pub covered_machines : Covered → MachinePair
covered_machines c = record { left = c.a.now; right = c.b.now }

-- none or one
abbrev pub as_list : Option ℕ → List ℕ
as_list None = []
as_list (Some k) = k ∷ []
