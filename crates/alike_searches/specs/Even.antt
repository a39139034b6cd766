-- Tables of alike machines: each node stands at a pair, and its fact is even.
use Rattle.std.specs.Prelude.{List}
use Rattle.std.specs.List.{AllByRecursion}
use Rattle.fs_model.specs.Machines.{Fsmd}
use Rattle.fs_cut.specs.Paths.{Point}
use Rattle.fs_pair.specs.Positions.{positions}
use Rattle.sym_facts.specs.Facts.{Fact}
use Rattle.sym_facts.specs.Pairings.{IsFactOf}
use Rattle.cert_bisimulation.specs.Alike.{ArePaired}
use Rattle.alike_searches.specs.EvenFacts.{IsEvenFact}
use Rattle.alike_searches.specs.RisenFacts.{IsRisenFact}
use Rattle.search_tables.specs.SearchTables.{SearchNode, Table}

-- a fact of the positions of two machines is even, and its equations rise
pub record IsEvenBetween (a b : Fsmd) (f : Fact) : Type 0 where
  pub is_of : IsFactOf (positions a b) f
  pub even : IsEvenFact f
  pub risen : IsRisenFact f

-- a node stands at two points that are listed as a pair, or at both returns, and its fact is even
pub record IsEvenNode (a b : Fsmd) (pairs : List (Point × Point)) (n : SearchNode) : Type 0 where
  pub paired : ArePaired pairs n.left n.right
  pub fact : IsEvenBetween a b n.fact

-- each node of a table is even
abbrev pub IsEvenTable : (a b : Fsmd) → List (Point × Point) → Table → Type 0
IsEvenTable a b pairs T = AllByRecursion (IsEvenNode a b pairs) T
