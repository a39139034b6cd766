-- Nodes that are of two machines: they stand at their points.
use Rattle.std.specs.Prelude.{◌≡◌, ◌≤◌, true, List}
use Rattle.std.specs.List.{AllByRecursion}
use Rattle.fs_model.specs.Machines.{Fsmd}
use Rattle.fs_cut.specs.Paths.{is_point}
use Rattle.fs_pair.specs.declared.positions.Position.{Position}
use Rattle.cert_bisimulation.specs.Tables.{Node}
use Rattle.cert_model.specs.Lawful.{most_rank}
use Rattle.sym_facts.specs.Facts.{Fact}
use Rattle.sym_facts.specs.Pairings.{IsFactOf}

-- what holds of each node of two machines
pub record IsNodeOf (a b : Fsmd) (ps : List Position) (n : Node Fact) : Type 0 where
  pub left : is_point a n.left ≡ true
  pub right : is_point b n.right ≡ true
  pub rank : n.rank ≤ most_rank
  pub fact : IsFactOf ps n.fact

-- nodes of two machines
pub record AreNodesOf (a b : Fsmd) (ps : List Position) (ns : List (Node Fact)) : Type 0 where
  pub each : AllByRecursion (IsNodeOf a b ps) ns
