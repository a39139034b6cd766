-- What a closed table gives.
use Rattle.std.specs.Prelude.{◌≡◌, ◌≤◌, ℕ, List, map, length, slice_index}
use Rattle.cert_bisimulation.specs.declared.mode.Mode.{Mode}
use Rattle.cert_bisimulation.specs.Tables.{Node as CertificateNode}
use Rattle.sym_facts.specs.Facts.{Fact}
use Rattle.cert_model.specs.Lawful.{most_rank}
use Rattle.cert_model.specs.View.{node_of}
use Rattle.search_tables.specs.Graphs.{AreRanks}
use Rattle.search_tables.specs.declared.ranking.Ranking.{Ranking}
use Rattle.search_tables.specs.declared.ranking.Ranking.TheVariants as rankings
use Rattle.search_tables.specs.SearchTables.{MachinePair, Table}
use Rattle.search_tables.specs.LoneMoves.{lone_moves, Spins}
use Rattle.search_tables.specs.Certifying.{node_without_mode, Certifies}
use Rattle.search_closing.specs.ClosedModes.{cycle_side}
use Rattle.search_closing.specs.declared.closing.Closing.{Closing}
use Rattle.search_closing.specs.declared.closing.Closing.TheVariants as closings

-- these are the nodes of a table's certificate, by the ranks of its lone moves
pub record HasCertificate (m : MachinePair) (T : Table) (nodes : List (CertificateNode Fact)) : Type 0 where
  pub ranks : List ℕ
  pub are_ranks : AreRanks (lone_moves m T) ranks
  pub low : (i : ℕ) → slice_index ranks i ≤ most_rank
  pub certifies : Certifies m T ranks nodes

-- a closed table has a certificate, or a side moves alone in a cycle
abbrev pub GivesClosing : MachinePair → Table → Closing → Type 0
GivesClosing m T (closings.Certified cert) = HasCertificate m T (map node_of cert.nodes.items)
GivesClosing m T (closings.Spins side cycle) = Spins m T side cycle.items

-- there are so many ranks, if there are ranks
abbrev pub HasCount : ℕ → Ranking → Type 0
HasCount n (rankings.Ranks ranks) = length ranks.items ≡ n
HasCount n (rankings.Cycle cycle) = Unit {0}

-- the nodes of a table with these modes and ranks
pub record IsMadeOf (T : Table) (modes : List Mode) (ranks : List ℕ) (nodes : List (CertificateNode Fact)) : Type 0 where
  pub nodes_are : map node_without_mode nodes ≡ T
  pub modes_are : map (λ c. c.mode) nodes ≡ modes
  pub ranks_are : map (λ c. c.rank) nodes ≡ ranks

-- the nodes of a table with these modes by a ranking: a certificate's, or a cycle with the side of its first node
abbrev pub ClosesBy : Table → List Mode → Ranking → Closing → Type 0
ClosesBy T modes (rankings.Ranks ranks) (closings.Certified cert) = IsMadeOf T modes ranks.items (map node_of cert.nodes.items)
ClosesBy T modes (rankings.Cycle cycle) (closings.Spins side nodes) = (side ≡ cycle_side modes cycle.items)
    × (nodes.items ≡ cycle.items)
ClosesBy T modes r c = ⊥
