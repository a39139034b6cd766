-- The names that two machines give.
use Rattle.std.specs.Prelude.{ℕ, List}
use Rattle.fs_pair.specs.Partners.{position_name}
use Rattle.fs_model.specs.declared.sides.Pos.{Pos}
use Rattle.search_tables.specs.SearchTables.{MachinePair}
use Rattle.show_fact_text.specs.declared.names.SideNames.{SideNames}

abbrev pub side_names_in : SideNames → Pos → List ℕ
side_names_in n = position_name n.left.now n.right.now

abbrev pub position_name_in : MachinePair → Pos → List ℕ
position_name_in m = position_name m.left m.right
