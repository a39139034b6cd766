-- Answers that say the same: they are one, but for what is found beyond a search that is left open.
use Rattle.std.specs.Prelude.{◌≡◌, ℕ, Bool, List, ◌∷◌, length, Option, Some, IsTrue}
use Rattle.fsmd_words.specs.AskedWords.{Asked, Generate}
use Rattle.fs_model.specs.Machines.{Fsmd}
use Rattle.cert_bisimulation.specs.Tables.{Node}
use Rattle.sym_facts.specs.Facts.{Fact}
use Rattle.cert_writer.specs.WrittenCertificates.{certificate_text}
use Rattle.fsmd_replies.specs.SearchTables.{machines}
use Rattle.fsmd_tool.specs.PairAnswers.{HasObstacle, IsLeftOpen, IsFoundBeyond}
use Rattle.fsmd_replies.specs.declared.answer.Answer.{Answer}
use Rattle.fsmd_replies.specs.declared.answer.Answer.TheVariants.{Equivalent, Undecided}
use Rattle.fsmd_replies.specs.AskedFiles.{is_check}
use Rattle.fsmd_tool.specs.LineAnswers.{HasLines}
use Rattle.fsmd_tool.specs.MachineFiles.{SpellsMachine}
use Rattle.fsmd_tool.specs.Readings.{OfBytes, Reading}
use Rattle.fsmd_tool.specs.ComparisonAnswers.{text_to_store, left_of, right_of}

-- what may be answered where no stated candidate shows a difference and the search is left open: a certificate that is found
-- beyond it and holds, by its number of nodes and its text where that is to be stored; or the line of the search's obstacle
pub data IsBeyond (a b : Fsmd) (answer : Answer) : Type 0 where
  Found : (nodes : List (Node Fact)) → IsFoundBeyond (machines a b) nodes → (keeps : Bool)
      → answer ≡ Equivalent (length nodes) (text_to_store keeps (certificate_text a b nodes)) → IsBeyond a b answer
  NoneFound : HasLines (HasObstacle (machines a b)) Undecided answer → IsBeyond a b answer

-- two answers to two machines are one; or the search of these machines is left open, and both say what may be answered there
pub data AreOne (a b : Fsmd) (x y : Answer) : Type 0 where
  Equal : x ≡ y → AreOne a b x y
  GoBeyond : IsLeftOpen (machines a b) → IsBeyond a b x → IsBeyond a b y → AreOne a b x y

-- the first two files that were opened spell these machines
abbrev pub ArePair : Reading → (a b : Fsmd) → Type 0
ArePair (left ∷ right ∷ rest) a b = OfBytes left (SpellsMachine a) × OfBytes right (SpellsMachine b)
ArePair r a b = ⊥

-- two machines are compared: those that were read of the first two files of a check, or those of so many loops
pub data AreComparedIn (o : Option Asked) (r : Reading) (a b : Fsmd) : Type 0 where
  OfFiles : IsTrue (is_check o) → ArePair r a b → AreComparedIn o r a b
  OfLoops : (loops : ℕ) → o ≡ Some (Generate loops) → a ≡ left_of loops → b ≡ right_of loops → AreComparedIn o r a b

-- two answers to what is asked are one, or are so as answers to the machines that are compared
pub data SaySame (o : Option Asked) (r : Reading) (x y : Answer) : Type 0 where
  One : x ≡ y → SaySame o r x y
  OfPair : (a b : Fsmd) → AreComparedIn o r a b → AreOne a b x y → SaySame o r x y
