-- What is stored of a certificate that holds passes.
use Rattle.std.proofs.Common.{◌≡◌, ◌≤◌, List, length, true, sym, subst}
use Rattle.std.specs.Prelude.{codes}
use Rattle.fs_model.specs.Machines.{Fsmd}
use Rattle.cert_bisimulation.specs.Tables.{Node}
use Rattle.sym_facts.specs.Facts.{Fact}
use Rattle.cert_writer.specs.CertificateLimits.{most_certificate_bytes}
use Rattle.cert_text.specs.Refusals.{SpellsNodes}
use Rattle.cert_writer.specs.WrittenCertificates.{certificate_text}
use Rattle.fsmd_replies.specs.SearchTables.{machines}
use Rattle.search_laws.specs.Certificates.{IsCertificate}
use Rattle.fsmd_replies.specs.declared.answer.Answer.{Answer}
use Rattle.fsmd_replies.specs.declared.answer.Answer.TheVariants.{Text}
use Rattle.fsmd_replies.specs.AskedFiles.{is_verify}
use Rattle.fsmd_tool.specs.Refusals.{SpellsCertificate}
use Rattle.fsmd_tool.specs.Calls.{Call}
use Rattle.fsmd_tool.specs.Correct.{IsCorrectAnswer}
use Rattle.fsmd_tool_laws.specs.Settled.{IsKnown, SpellPair}
use Rattle.fsmd_tool_laws.proofs.Certificates.{ReadInOneWay}
use Rattle.fsmd_tool_laws.proofs.Correct.{certificate_passes}

-- bytes that are the text of a certificate that holds spell it
stored_spells : (g : Call) (a b : Fsmd) (nodes : List (Node Fact)) → length (certificate_text a b nodes) ≤ most_certificate_bytes
    → SpellsNodes a b (certificate_text a b nodes) nodes → IsCertificate (machines a b) nodes
    → IsKnown g 2 (λ bytes. bytes ≡ certificate_text a b nodes) → IsKnown g 2 (SpellsCertificate a b nodes)
stored_spells g a b nodes few spells holds k = record {
  bytes = k.bytes;
  known = k.known;
  meet = subst (SpellsCertificate a b nodes) (sym k.meet) (record { few = few; spells = spells; lawful = holds.lawful });
  was_read = k.was_read;
}

pub stored_pass : (w : ReadInOneWay)
    → (small : (a b : Fsmd) (nodes : List (Node Fact)) → IsCertificate (machines a b) nodes → length (certificate_text a b nodes) ≤ most_certificate_bytes)
    → (spelled : (a b : Fsmd) (nodes : List (Node Fact)) → IsCertificate (machines a b) nodes → SpellsNodes a b (certificate_text a b nodes) nodes)
    → (g : Call) (x : Answer) (a b : Fsmd) (nodes : List (Node Fact)) → is_verify g.asked ≡ true → SpellPair g a b
    → IsKnown g 2 (λ bytes. bytes ≡ certificate_text a b nodes) → IsCertificate (machines a b) nodes → IsCorrectAnswer g x
    → x ≡ Text (codes "yes\n")
stored_pass w small spelled g x a b nodes e pair known holds p =
    certificate_passes w g x a b nodes e pair (stored_spells g a b nodes (small a b nodes holds) (spelled a b nodes holds) holds known) holds p
