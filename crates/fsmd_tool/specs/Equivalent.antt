-- What status 0 of a comparison, of a certificate's check and of a chain tells. Nothing here speaks of how it was found.
use Rattle.std.specs.Prelude.{◌≡◌, ℕ, ◌+◌, ◌-◌, ◌*◌, List, ◌++◌, Option, Some, None, codes, decimal}
use Rattle.fsmd_words.specs.AskedWords.{Check, Verify, Generate, Chain}
use Rattle.fs_base.specs.Outside.{got_after}
use Rattle.fs_model.specs.Machines.{Fsmd}
use Rattle.fs_model.specs.Runs.{SameBehaviour}
use Rattle.fs_pair.specs.Interfaces.{interface_fault}
use Rattle.fsmd_replies.specs.AskedFiles.{operand}
use Rattle.fsmd_answers.specs.MachineFiles.{SpellsMachine}
use Rattle.fsmd_answers.specs.ComparisonAnswers.{left_of, right_of}
use Rattle.fsmd_answers.specs.Links.{links_of}
use Rattle.fsmd_replies.specs.Replies.{opening_line, equivalent_text}
use Rattle.fsmd_tool.specs.Calls.{Call, known_at_start, MayHold}
use Rattle.fsmd_tool.specs.SinkReplies.{Put}

-- two machines that the files of a check spell, each where it is known what it holds
pub record AreOfFiles (g : Call) (a b : Fsmd) : Type 0 where
  pub left_file : List ℕ
  pub right_file : List ℕ
  pub cert : Option (List ℕ)
  pub steps : ℕ
  pub asked : g.asked ≡ Some (Check left_file right_file cert steps)
  pub first : MayHold (g.before.holds left_file) (SpellsMachine a)
  pub second : MayHold (g.before.holds right_file) (SpellsMachine b)

-- two machines that are generated, of so many loops
pub record AreOfLoops (g : Call) (a b : Fsmd) : Type 0 where
  pub loops : ℕ
  pub asked : g.asked ≡ Some (Generate loops)
  pub first : a ≡ left_of loops
  pub second : b ≡ right_of loops

-- two machines are compared: of files, or generated
pub data AreCompared (g : Call) (a b : Fsmd) : Type 0 where
  OfFiles : AreOfFiles g a b → AreCompared g a b
  OfLoops : AreOfLoops g a b → AreCompared g a b

-- machines with the same inputs and outputs are compared
pub record ArePairedMachines (g : Call) (a b : Fsmd) : Type 0 where
  pub compared : AreCompared g a b
  pub alike : interface_fault a b ≡ None

-- this was put, behind the line with which each reply begins
abbrev pub HasPut : Call → Put → List ℕ → Type 0
HasPut g p lines = p.got_now ≡ got_after p.got_before (opening_line g.asked ++ lines)

-- two machines of files have the same inputs and outputs and the same behaviour, and the line that says so was put, with some
-- number of nodes
pub record AreEquivalent (g : Call) (p : Put) : Type 0 where
  pub left : Fsmd
  pub right : Fsmd
  pub compared : AreOfFiles g left right
  pub alike : interface_fault left right ≡ None
  pub same : SameBehaviour left right
  pub nodes : ℕ
  pub put : HasPut g p (equivalent_text nodes)

-- the same of two machines that are generated
pub record AreGeneratedEquivalent (g : Call) (p : Put) : Type 0 where
  pub left : Fsmd
  pub right : Fsmd
  pub compared : AreOfLoops g left right
  pub alike : interface_fault left right ≡ None
  pub same : SameBehaviour left right
  pub nodes : ℕ
  pub put : HasPut g p (equivalent_text nodes)

-- the first two files of a certificate's check spell machines, each where it is known what it holds; these have the same inputs
-- and outputs and the same behaviour, and yes was put
pub record AreVerified (g : Call) (p : Put) : Type 0 where
  pub left_file : List ℕ
  pub right_file : List ℕ
  pub cert_file : List ℕ
  pub asked : g.asked ≡ Some (Verify left_file right_file cert_file)
  pub left : Fsmd
  pub right : Fsmd
  pub first : MayHold (g.before.holds left_file) (SpellsMachine left)
  pub second : MayHold (g.before.holds right_file) (SpellsMachine right)
  pub alike : interface_fault left right ≡ None
  pub same : SameBehaviour left right
  pub put : p.got_now ≡ got_after p.got_before (codes "yes\n")

-- the files of the first and of the last machine of a chain spell these, each where it is known what it holds; they have the same
-- behaviour, and how many machines there are was put. In the order of work each link's machine stands before its certificate, so
-- the last machine of a chain with links is the last file but one
pub record AreChained (g : Call) (p : Put) : Type 0 where
  pub words : List (List ℕ)
  pub asked : g.asked ≡ Some (Chain words)
  pub first : Fsmd
  pub last : Fsmd
  pub begins : MayHold (known_at_start g (operand 0)) (SpellsMachine first)
  pub ends : MayHold (known_at_start g (operand (2 * links_of words - 1))) (SpellsMachine last)
  pub same : SameBehaviour first last
  pub put : HasPut g p (codes "yes: " ++ (decimal (links_of words + 1) ++ codes " machines\n"))
