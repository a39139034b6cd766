-- Lawful certificates.
use Rattle.std.specs.Prelude.{ℕ, ◌≤◌, Bool, true, not, ◌&&◌, IsTrue, nat_le, List, [], ◌∷◌, length}
use Rattle.std.specs.List.{list_all, list_any, AllByRecursion}
use Rattle.fs_model.specs.Machines.{Fsmd}
use Rattle.fs_cut.specs.Paths.{is_point}
use Rattle.fs_cut.specs.Covers.{same_point}
use Rattle.sym_facts.specs.Positions.{positions}
use Rattle.cert_bisimulation.specs.Tables.{Node}
use Rattle.sym_facts.specs.Facts.{Fact}
use Rattle.sym_facts.specs.Pairings.{IsFactOf}

abbrev pub most_nodes : ℕ
most_nodes = 4096

abbrev pub most_rank : ℕ
most_rank = 4096

-- no two nodes stand at the same points, as in the formats 1 and 2
abbrev pub points_differ : List (Node Fact) → Bool
points_differ [] = true
points_differ (n ∷ ns) = not (list_any (λ k. same_point n.left k.left && same_point n.right k.right) ns) && points_differ ns

pub record IsLawful (a b : Fsmd) (ns : List (Node Fact)) : Type 0 where
  pub few : length ns ≤ most_nodes
  pub points : IsTrue (list_all (λ n. is_point a n.left && is_point b n.right) ns)
  pub ranks : IsTrue (list_all (λ n. nat_le n.rank most_rank) ns)
  pub facts : AllByRecursion (λ n. IsFactOf (positions a b) n.fact) ns
