-- Certificates of two machines that hold.
use Rattle.std.specs.Prelude.{◌≡◌, ◌≤◌, List}
use Rattle.fs_model.specs.SoundMachines.{IsSound}
use Rattle.cert_bisimulation.specs.Tables.{Node}
use Rattle.sym_facts.specs.Facts.{Fact}
use Rattle.sym_facts.specs.Starts.{start_fact}
use Rattle.cert_model.specs.Lawful.{IsLawful}
use Rattle.cert_model.specs.Obligations.{Yes, verdict}
use Rattle.cert_model.specs.Kept.{AreNormal}
use Rattle.cert_model.specs.Sizes.{units_of}
use Rattle.search_tables.specs.SearchTables.{MachinePair, positions_of, most_units}

-- the nodes are a certificate of two sound machines that holds: it is lawful, its facts are in normal form and have together at
-- most 4,000,000 units, and all its obligations hold
pub record IsCertificate (m : MachinePair) (nodes : List (Node Fact)) : Type 0 where
  pub left_sound : IsSound m.left
  pub right_sound : IsSound m.right
  pub lawful : IsLawful m.left m.right nodes
  pub normal : AreNormal nodes
  pub within : units_of nodes ≤ most_units
  pub hold : verdict m.left m.right (start_fact (positions_of m)) nodes ≡ Yes
