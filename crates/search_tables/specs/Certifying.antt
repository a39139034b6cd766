-- The certificate of a table.
use Rattle.std.specs.Prelude.{◌≡◌, ℕ, List, map}
use Rattle.std.specs.List.{AllByRecursion}
use Rattle.cert_bisimulation.specs.Tables.{Node as CertificateNode}
use Rattle.cert_model.specs.Facts.{Fact}
use Rattle.propagate.specs.Modes.{Found}
use Rattle.search_tables.specs.SearchTables.{MachinePair, SearchNode, Table}
use Rattle.search_tables.specs.Next.{mode_at}

-- the points and the fact of a certificate's node
abbrev pub node_without_mode : CertificateNode Fact → SearchNode
node_without_mode c = record { left = c.left; right = c.right; fact = c.fact }

-- a certificate has the nodes of a table in order, each with its mode and its rank
pub record Certifies (m : MachinePair) (T : Table) (ranks : List ℕ) (cs : List (CertificateNode Fact)) : Type 0 where
  pub nodes : map node_without_mode cs ≡ T
  pub modes : AllByRecursion (λ c. mode_at m (node_without_mode c) ≡ Found c.mode) cs
  pub ranks_are : map (λ c. c.rank) cs ≡ ranks
