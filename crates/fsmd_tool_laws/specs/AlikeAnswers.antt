-- What alike machines get.
use Rattle.std.specs.Prelude.{◌≡◌, Bool, List, length}
use Rattle.fs_model.specs.Machines.{Fsmd}
use Rattle.cert_bisimulation.specs.Tables.{Node}
use Rattle.sym_facts.specs.Facts.{Fact}
use Rattle.cert_writer.specs.WrittenCertificates.{certificate_text}
use Rattle.fsmd_replies.specs.SearchTables.{machines}
use Rattle.search_laws.specs.SearchOutcomes.{IsClosedWith}
use Rattle.fsmd_tool.specs.PairAnswers.{HasLimit}
use Rattle.fsmd_replies.specs.declared.answer.Answer.{Answer}
use Rattle.fsmd_replies.specs.declared.answer.Answer.TheVariants.{Equivalent, Undecided}
use Rattle.fsmd_tool.specs.LineAnswers.{HasLines}
use Rattle.fsmd_tool.specs.ComparisonAnswers.{text_to_store}

-- an answer to two machines: the certificate of a search that closes, by its number of nodes and by its text where that is to be
-- stored; or the line of a limit that stops the search
pub data IsClosedOrLimitAnswer (keeps : Bool) (a b : Fsmd) (answer : Answer) : Type 0 where
  OfClosed : (nodes : List (Node Fact)) → IsClosedWith (machines a b) nodes
      → answer ≡ Equivalent (length nodes) (text_to_store keeps (certificate_text a b nodes))
      → IsClosedOrLimitAnswer keeps a b answer
  OfLimit : HasLines (HasLimit (machines a b)) Undecided answer → IsClosedOrLimitAnswer keeps a b answer
