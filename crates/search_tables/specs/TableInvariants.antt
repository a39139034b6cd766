-- What holds of each table that a legal list of moves makes.
use Rattle.std.specs.Prelude.{◌≤◌, Bool, true, not, ◌&&◌, IsTrue, List, [], ◌∷◌, length}
use Rattle.std.specs.List.{list_all, list_any}
use Rattle.fs_cut.specs.Paths.{is_point}
use Rattle.fs_cut.specs.Covers.{same_point}
use Rattle.cert_model.specs.Lawful.{most_nodes}
use Rattle.search_tables.specs.SearchTables.{MachinePair, SearchNode, Table}

-- no two nodes stand at the same points
abbrev pub nodes_differ : List SearchNode → Bool
nodes_differ [] = true
nodes_differ (n ∷ ns) = not (list_any (λ k. same_point n.left k.left && same_point n.right k.right) ns) && nodes_differ ns

pub record IsWellFormed (m : MachinePair) (T : Table) : Type 0 where
  pub few : length T ≤ most_nodes
  pub points : IsTrue (list_all (λ n. is_point m.left n.left && is_point m.right n.right) T)
  pub differ : IsTrue (nodes_differ T)
