-- What the status of a call tells of its files and of what was put.
use Rattle.std.specs.Prelude.{◌≡◌, ◌<◌, ℕ, ◌+◌, List, ◌++◌, length, Some, None, codes, decimal}
use Rattle.fsmd_words.specs.AskedWords.{Chain}
use Rattle.fs_base.specs.Outside.{Rose, got_after}
use Rattle.fs_model.specs.Machines.{Fsmd}
use Rattle.fs_model.specs.Runs.{Inputs, Content, SameBehaviour}
use Rattle.fs_model.specs.Source.{Source}
use Rattle.fs_ast.specs.MachineOfParts.{machine_of}
use Rattle.fs_pair.specs.Interfaces.{interface_fault}
use Rattle.fs_trials.specs.Differences.{ShowsDifference}
use Rattle.hls_shrink.specs.Shrunk.{ShowDifference, EndsIn}
use Rattle.hls_shrink.specs.Given.{given_contents}
use Rattle.cert_bisimulation.specs.Tables.{Node}
use Rattle.sym_facts.specs.Facts.{Fact}
use Rattle.cert_model.specs.Obligations.{Yes, verdict_on}
use Rattle.fsmd_answers.specs.WrittenCertificates.{certificate_text}
use Rattle.fsmd_replies.specs.SearchTables.{machines}
use Rattle.fsmd_answers.specs.Certificates.{IsCertificate}
use Rattle.fsmd_answers.specs.PairAnswers.{ShowsSame, IsCounterexample, IsUndecided}
use Rattle.fsmd_replies.specs.AskedFiles.{operand, files_of, cert_of, step_limit, shrink_limit}
use Rattle.hls_program_parts.specs.Programs.{Program}
use Rattle.hls_unit_counts.specs.Counts.{Units}
use Rattle.fsmd_answers.specs.ProgramAnswers.{IsCompiledText}
use Rattle.fsmd_answers.specs.ScheduleAnswers.{IsScheduleText}
use Rattle.fsmd_answers.specs.BindingAnswers.{Binding, IsBoundText}
use Rattle.fsmd_answers.specs.MachineFiles.{SpellsParts, SpellsMachine}
use Rattle.fsmd_answers.specs.ProgramFiles.{SpellsProgram}
use Rattle.fsmd_answers.specs.ScheduleFiles.{SpellUnits}
use Rattle.fsmd_answers.specs.BindingFiles.{SpellsBinding}
use Rattle.fsmd_answers.specs.Refusals.{SpellsCertificate}
use Rattle.fsmd_answers.specs.InputFiles.{SpellsInputs}
use Rattle.fsmd_answers.specs.Shrinks.{IsSmallText}
use Rattle.fsmd_answers.specs.Links.{links_of}
use Rattle.fsmd_replies.specs.Replies.{equivalent_text}
use Rattle.fsmd_tool.specs.Calls.{Call, known_at_start, FailedToRead, MayHold}
use Rattle.fsmd_tool.specs.HoldingLinks.{LinksHold}
use Rattle.fsmd_tool.specs.SinkReplies.{Put}
use Rattle.fsmd_tool.specs.Equivalent.{ArePairedMachines, HasPut}
use Rattle.fsmd_tool.specs.CertificateStores.{file_change, IsUnchangedStore, IsStoredUnder, IsUnstored}

-- a certificate shows that the machines have the same behaviour: that of a closed search, or one that was found beyond a search
-- that is left open, and judged. It holds: it is lawful, within the limits, and all its obligations hold. Its number of nodes was
-- put, and it was stored where that is asked
pub record SaysSame (g : Call) (p : Put) : Type 0 where
  pub left : Fsmd
  pub right : Fsmd
  pub paired : ArePairedMachines g left right
  pub nodes : List (Node Fact)
  pub shows : ShowsSame (machines left right) nodes
  pub holds : IsCertificate (machines left right) nodes
  pub same : SameBehaviour left right
  pub put : HasPut g p (equivalent_text (length nodes))
  pub stored : (name : List ℕ) → cert_of g.asked ≡ Some name
      → IsStoredUnder name (certificate_text left right nodes) (file_change g.before g.now)

-- runs of the machines from the first stated candidate that shows a difference end with other outputs, which was put
pub record SaysDiffer (g : Call) (p : Put) : Type 0 where
  pub left : Fsmd
  pub right : Fsmd
  pub paired : ArePairedMachines g left right
  pub lines : List ℕ
  pub shows : IsCounterexample (step_limit g.asked) left right lines
  pub put : HasPut g p lines

-- no stated candidate shows a difference of the machines, and a legal list of moves stops at an obstacle, which was put
pub record SaysUndecided (g : Call) (p : Put) : Type 0 where
  pub left : Fsmd
  pub right : Fsmd
  pub paired : ArePairedMachines g left right
  pub lines : List ℕ
  pub is_undecided : IsUndecided (step_limit g.asked) left right lines
  pub put : HasPut g p lines

-- the first two files spell machines with the same inputs and outputs and the third a lawful certificate of theirs, each where it
-- is known what it holds; all its obligations hold, and the machines have the same behaviour
pub record IsChecked (g : Call) (p : Put) : Type 0 where
  pub left : Fsmd
  pub right : Fsmd
  pub nodes : List (Node Fact)
  pub first : MayHold (known_at_start g (operand 0)) (SpellsMachine left)
  pub second : MayHold (known_at_start g (operand 1)) (SpellsMachine right)
  pub third : MayHold (known_at_start g (operand 2)) (SpellsCertificate left right nodes)
  pub alike : interface_fault left right ≡ None
  pub hold : verdict_on left right nodes ≡ Yes
  pub same : SameBehaviour left right
  pub put : p.got_now ≡ got_after p.got_before (codes "yes\n")

-- the first file spells a program, where it is known what it holds; the text of what it is compiled to was put
pub record IsCompiled (g : Call) (p : Put) : Type 0 where
  pub program : Program
  pub text : List ℕ
  pub first : MayHold (known_at_start g (operand 0)) (SpellsProgram program)
  pub is : IsCompiledText program text
  pub put : HasPut g p text

-- the first file spells parts and the second unit counts, each where it is known what it holds; the text of the parts' schedule
-- under these was put
pub record IsInRows (g : Call) (p : Put) : Type 0 where
  pub parts : Source
  pub units : Units
  pub text : List ℕ
  pub first : MayHold (known_at_start g (operand 0)) (SpellsParts parts)
  pub second : MayHold (known_at_start g (operand 1)) (SpellUnits units)
  pub is : IsScheduleText units parts text
  pub put : HasPut g p text

-- the first file spells parts and the second a binding of their machine, each where it is known what it holds; the text of the
-- parts with registers was put
pub record IsInRegisters (g : Call) (p : Put) : Type 0 where
  pub parts : Source
  pub binding : Binding
  pub text : List ℕ
  pub first : MayHold (known_at_start g (operand 0)) (SpellsParts parts)
  pub second : MayHold (known_at_start g (operand 1)) (SpellsBinding (machine_of parts) binding)
  pub is : IsBoundText parts binding text
  pub put : HasPut g p text

-- the first two files spell machines with the same inputs and outputs and the third inputs of theirs that show a difference, each
-- where it is known what it holds; the lines that were put tell of the end of the chain of first reductions of these
pub record IsShrunk (g : Call) (p : Put) : Type 0 where
  pub left : Fsmd
  pub right : Fsmd
  pub inputs : Inputs
  pub end : List Content
  pub lines : List ℕ
  pub first : MayHold (known_at_start g (operand 0)) (SpellsMachine left)
  pub second : MayHold (known_at_start g (operand 1)) (SpellsMachine right)
  pub third : MayHold (known_at_start g (operand 2)) (SpellsInputs left inputs)
  pub alike : interface_fault left right ≡ None
  pub shows : ShowsDifference left right inputs (shrink_limit g.asked)
  pub ends : EndsIn (ShowDifference left right (shrink_limit g.asked)) (given_contents left inputs) end
  pub told : IsSmallText (shrink_limit g.asked) left right end lines
  pub put : HasPut g p lines

-- the first file spells a machine, where it is known what it holds, and all links behind it hold; the first and the last machine
-- have the same behaviour, and how many machines there are was put
pub record IsChained (g : Call) (p : Put) : Type 0 where
  pub words : List (List ℕ)
  pub asked : g.asked ≡ Some (Chain words)
  pub first : Fsmd
  pub last : Fsmd
  pub begins : MayHold (known_at_start g (operand 0)) (SpellsMachine first)
  pub hold : LinksHold g 1 (links_of words) first last
  pub same : SameBehaviour first last
  pub put : HasPut g p (codes "yes: " ++ (decimal (links_of words + 1) ++ codes " machines\n"))

-- no file was changed but the one for a certificate, and that only where one shows that the machines that are compared have the
-- same behaviour: it was stored, or that failed
pub data KeepsFiles (g : Call) : Type 0 where
  AllKept : IsUnchangedStore (file_change g.before g.now) → KeepsFiles g
  CertificateStored : (name : List ℕ) → cert_of g.asked ≡ Some name → (a b : Fsmd) → ArePairedMachines g a b
      → (nodes : List (Node Fact)) → ShowsSame (machines a b) nodes
      → IsStoredUnder name (certificate_text a b nodes) (file_change g.before g.now) → KeepsFiles g
  CertificateFailed : (name : List ℕ) → cert_of g.asked ≡ Some name → (a b : Fsmd) → ArePairedMachines g a b
      → (nodes : List (Node Fact)) → ShowsSame (machines a b) nodes
      → IsUnstored name (file_change g.before g.now) → KeepsFiles g

-- a file that is named to be read failed to be read, the certificate failed to be stored, or the sink failed
pub data HasCause (g : Call) (p : Put) : Type 0 where
  FileFailed : (file : ℕ) → file < length (files_of g.asked) → FailedToRead g (operand file) → HasCause g p
  CertificateUnstored : (name : List ℕ) → cert_of g.asked ≡ Some name
      → Rose (g.before.store_faults name) (g.now.store_faults name) → HasCause g p
  SinkFailed : Rose p.faults_before p.faults_now → HasCause g p
