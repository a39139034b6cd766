-- The nodes and the obstacles of src/ as plain data.
use Rattle.std.specs.Prelude.{List, map}
use Rattle.fs_cut.specs.Paths.{Point}
use Rattle.fs_cut.specs.View.{point_of}
use Rattle.search_tables.specs.declared.pairs.PointPair.{PointPair}
use Rattle.search_tables.specs.declared.nodes.SearchNode.{SearchNode as CodeNode}
use Rattle.search_tables.specs.declared.outcome.Obstacle.{Obstacle as CodeObstacle}
use Rattle.search_tables.specs.declared.outcome.Obstacle.TheVariants as code
use Rattle.search_tables.specs.SearchTables.{SearchNode, Table}
use Rattle.search_tables.specs.Obstacles.{Obstacle, Stuck, Spin, Wide, Large, Exhausted}

-- the points of a node of a table
pub record Points : Type 0 where
  pub left : Point
  pub right : Point

abbrev pub points_in : PointPair → Points
points_in n = record { left = point_of n.left; right = point_of n.right }

abbrev pub points_at : SearchNode → Points
points_at n = record { left = n.left; right = n.right }

abbrev pub search_node_in : CodeNode → SearchNode
search_node_in n = record { left = point_of n.left; right = point_of n.right; fact = n.fact }

-- the table of these nodes
abbrev pub table_in : List CodeNode → Table
table_in ns = map search_node_in ns

abbrev pub obstacle_in : CodeObstacle → Obstacle
obstacle_in (code.Stuck node output) = Stuck node output
obstacle_in (code.Spin side cycle) = Spin side cycle.items
obstacle_in (code.Wide at) = Wide at
obstacle_in (code.Large at) = Large at
obstacle_in (code.Exhausted at what) = Exhausted at what
