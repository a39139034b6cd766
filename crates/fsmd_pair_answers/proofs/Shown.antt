-- Which certificates show that two machines have the same behaviour.
use Rattle.std.proofs.Common.{inl, inr, List}
use Rattle.fs_model.specs.Machines.{Fsmd}
use Rattle.cert_bisimulation.specs.Tables.{Node}
use Rattle.sym_facts.specs.Facts.{Fact}
use Rattle.search_tables.specs.SearchTables.{machines}
use Rattle.search_laws.specs.SearchOutcomes.{IsClosedWith}
use Rattle.search_laws.specs.Certificates.{IsCertificate}
use Rattle.search_laws.proofs.Small.{closed_holds}
use Rattle.fsmd_pair_answers.specs.PairAnswers.{IsLeftOpen, ShowsSame}

-- that of a closed search
pub closed_shows : (a b : Fsmd) (nodes : List (Node Fact)) → IsClosedWith (machines a b) nodes → ShowsSame (machines a b) nodes
closed_shows a b nodes h = record { certificate = closed_holds a b nodes h; found = inl h }

-- one that holds, where the search is left open
pub beyond_shows : (a b : Fsmd) (nodes : List (Node Fact)) → IsLeftOpen (machines a b) → IsCertificate (machines a b) nodes → ShowsSame (machines a b) nodes
beyond_shows a b nodes h k = record { certificate = k; found = inr h }
