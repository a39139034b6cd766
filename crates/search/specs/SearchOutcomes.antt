-- How a search ends.
use Rattle.std.specs.Prelude.{◌≡◌, ◌+◌, ◌*◌, ◌≤◌, ℕ, List, length, map, None}
use Rattle.fs_model.specs.SoundMachines.{IsSound}
use Rattle.cert_bisimulation.specs.Tables.{Node as CertificateNode}
use Rattle.sym_facts.specs.Facts.{Fact, most_literals}
use Rattle.sym_facts.specs.Starts.{start_fact}
use Rattle.cert_model.specs.Lawful.{IsLawful, most_nodes}
use Rattle.cert_model.specs.Obligations.{Yes, verdict}
use Rattle.cert_model.specs.View.{node_of}
use Rattle.cert_model.specs.Kept.{AreNormal}
use Rattle.search_tables.specs.Graphs.{AreRanks}
use Rattle.search_tables.specs.declared.moves.Move.{Move}
use Rattle.search_tables.specs.declared.outcome.Outcome.{Outcome}
use Rattle.search_tables.specs.declared.outcome.Outcome.TheVariants as outcomes
use Rattle.search_tables.specs.SearchTables.{MachinePair, Table, positions_of}
use Rattle.search_tables.specs.Next.{IsClosed}
use Rattle.search_tables.specs.Legal.{Makes, difference_in}
use Rattle.search_tables.specs.LoneMoves.{lone_moves}
use Rattle.search_tables.specs.Certifying.{Certifies}
use Rattle.search_tables.specs.Obstacles.{Obstacle, Stuck, Spin, Wide, Large, Exhausted, StandsIn}
use Rattle.search_tables.specs.View.{Points, points_in, points_at}

-- of two sound machines a legal list of moves makes a closed table in which no outputs differ, of which this is the certificate:
-- it is lawful, its facts are in normal form, and all its obligations hold
pub record IsClosedWith (m : MachinePair) (nodes : List (CertificateNode Fact)) : Type 0 where
  pub left_sound : IsSound m.left
  pub right_sound : IsSound m.right
  pub moves : List Move
  pub table : Table
  pub makes : Makes m moves table
  pub closed : IsClosed m table
  pub none_differ : difference_in m table ≡ None
  pub ranks : List ℕ
  pub are_ranks : AreRanks (lone_moves m table) ranks
  pub certifies : Certifies m table ranks nodes
  pub lawful : IsLawful m.left m.right nodes
  pub normal : AreNormal nodes
  pub hold : verdict m.left m.right (start_fact (positions_of m)) nodes ≡ Yes

-- the most positions of two sound machines: 128 variables of each
abbrev pub most_positions : ℕ
most_positions = 256

-- the most moves of a legal list, of two sound machines: 4,096 times 321
abbrev pub most_legal_moves : ℕ
most_legal_moves = most_nodes * (most_positions + most_literals + 1)

-- of two sound machines this legal list of moves makes a table whose nodes have these points, and in which this obstacle stands
pub record StopsAtObstacle (m : MachinePair) (moves : List Move) (points : List Points) (o : Obstacle) : Type 0 where
  pub left_sound : IsSound m.left
  pub right_sound : IsSound m.right
  pub table : Table
  pub makes : Makes m moves table
  pub points_are : map points_at table ≡ points
  pub stands : StandsIn m table o
  pub short : length moves ≤ most_nodes * (length (positions_of m) + most_literals + 1)
  pub few : length moves ≤ most_legal_moves

-- the outcome of a search of two machines
abbrev pub IsSearchOutcome : MachinePair → Outcome → Type 0
IsSearchOutcome m (outcomes.Closed cert) = IsClosedWith m (map node_of cert.nodes.items)
IsSearchOutcome m (outcomes.Stuck moves points node var) =
    StopsAtObstacle m moves.items (map points_in points.items) (Stuck node var)
IsSearchOutcome m (outcomes.Spin moves points side cycle) =
    StopsAtObstacle m moves.items (map points_in points.items) (Spin side cycle.items)
IsSearchOutcome m (outcomes.Wide moves points at) = StopsAtObstacle m moves.items (map points_in points.items) (Wide at)
IsSearchOutcome m (outcomes.Large moves points at) = StopsAtObstacle m moves.items (map points_in points.items) (Large at)
IsSearchOutcome m (outcomes.Exhausted moves points at what) =
    StopsAtObstacle m moves.items (map points_in points.items) (Exhausted at what)

-- the search closes, or a limit stops it: no outputs differ, and no machine is alone in a cycle
abbrev pub ClosesOrMeetsLimit : Outcome → Type 0
ClosesOrMeetsLimit (outcomes.Closed cert) = Unit {0}
ClosesOrMeetsLimit (outcomes.Stuck moves points node var) = ⊥
ClosesOrMeetsLimit (outcomes.Spin moves points side cycle) = ⊥
ClosesOrMeetsLimit (outcomes.Wide moves points at) = Unit {0}
ClosesOrMeetsLimit (outcomes.Large moves points at) = Unit {0}
ClosesOrMeetsLimit (outcomes.Exhausted moves points at what) = Unit {0}
