-- Why files of machines and of certificates are refused.
use Rattle.std.specs.Prelude.{◌≡◌, ◌≢◌, ℕ, ◌≤◌, List, Some, length}
use Rattle.fs_model.specs.Limits.{most_text_bytes}
use Rattle.fs_model.specs.Machines.{Fsmd}
use Rattle.fs_grammar.specs.declared.fault.TextFault.{TextFault}
use Rattle.fs_rules.specs.declared.check.CheckFault.{CheckFault}
use Rattle.fs_pair.specs.Interfaces.{interface_fault}
use Rattle.cert_bisimulation.specs.Tables.{Node}
use Rattle.sym_facts.specs.Facts.{Fact}
use Rattle.cert_model.specs.Lawful.{IsLawful}
use Rattle.cert_writer.specs.CertificateLimits.{most_certificate_bytes}
use Rattle.cert_facts.specs.declared.faults.CertError.{CertError}
use Rattle.cert_facts.specs.declared.faults.CertError.TheVariants as cert_errors
use Rattle.cert_text.specs.Refusals.{SpellsNodes, IsRefusedAsCertificate as IsRefusedFor}
use Rattle.fsmd_replies.specs.declared.answer.Operand.{Operand}
use Rattle.fsmd_replies.specs.declared.answer.Answer.{Answer}
use Rattle.fsmd_replies.specs.declared.answer.Answer.TheVariants.{TextRefused, CheckRefused, CertRefused, Interfaces}
use Rattle.fsmd_answers.specs.LineAnswers.{HasLines}
use Rattle.fsmd_answers.specs.MachineFiles.{HasTextFault, HasCheckFault}
use Rattle.fsmd_answers.specs.Readings.{FileContent, OfBytes}
use Rattle.fsmd_answers.specs.Unread.{IsUnread}

-- ---- machines

-- why the file of a machine is refused: by its text, or by the rules of machines
pub data RefusesMachine (file : Operand) (content : FileContent) (answer : Answer) : Type 0 where
  Unread : IsUnread most_text_bytes file content answer → RefusesMachine file content answer
  ByText : (fault : TextFault) → OfBytes content (HasTextFault fault) → answer ≡ TextRefused file fault
      → RefusesMachine file content answer
  ByRule : (fault : CheckFault) → OfBytes content (HasCheckFault fault) → answer ≡ CheckRefused file fault
      → RefusesMachine file content answer

-- why two machines are refused as a pair: the first name of which they have other inputs or outputs
abbrev pub RefusesPair : (a b : Fsmd) → Answer → Type 0
RefusesPair a b answer = HasLines (λ name. interface_fault a b ≡ Some name) Interfaces answer

-- ---- certificates

-- bytes that are read spell these nodes, which are a lawful certificate of two machines
pub record SpellsCertificate (a b : Fsmd) (nodes : List (Node Fact)) (bytes : List ℕ) : Type 0 where
  pub few : length bytes ≤ most_certificate_bytes
  pub spells : SpellsNodes a b bytes nodes
  pub lawful : IsLawful a b nodes

-- bytes that are read spell no certificate of two machines: this is the first rule that is broken
pub record HasCertFault (a b : Fsmd) (error : CertError) (bytes : List ℕ) : Type 0 where
  pub few : length bytes ≤ most_certificate_bytes
  pub told : error ≢ cert_errors.NoMemory
  pub refused : IsRefusedFor a b bytes error

-- why a file of two machines' certificate is refused
pub data RefusesCertificate (a b : Fsmd) (file : Operand) (content : FileContent) (answer : Answer) : Type 0 where
  UnreadCertificate : IsUnread most_certificate_bytes file content answer → RefusesCertificate a b file content answer
  ByCertificate : (error : CertError) → OfBytes content (HasCertFault a b error) → answer ≡ CertRefused file error
      → RefusesCertificate a b file content answer
