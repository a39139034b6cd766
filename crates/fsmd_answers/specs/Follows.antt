-- Which answer follows from what was read.
use Rattle.std.specs.Prelude.{◌≡◌, ◌≢◌, ℕ, zero, suc, ◌+◌, List, [], ◌∷◌, Option, Some, None, is_some}
use Rattle.fsmd_words.specs.AskedWords.{Asked, Check, Verify, Run, Replay, Fmt, Cuts, Generate}
use Rattle.fsmd_words.specs.AskedWords.{Compile, Schedule, Bind, Shrink, Chain}
use Rattle.fs_model.specs.Machines.{Fsmd}
use Rattle.fs_model.specs.Runs.{Inputs}
use Rattle.fs_model.specs.Source.{Source}
use Rattle.fs_rules.specs.MachineOfParts.{machine_of}
use Rattle.fs_pair.specs.Interfaces.{interface_fault}
use Rattle.cert_bisimulation.specs.Tables.{Node}
use Rattle.cert_model.specs.Obligations.{Yes, verdict_on}
use Rattle.sym_facts.specs.Facts.{Fact}
use Rattle.hls_program_parts.specs.Programs.{Program}
use Rattle.hls_unit_counts.specs.Counts.{Units}
use Rattle.fsmd_synthesis_answers.specs.BindingAnswers.{Binding}
use Rattle.fsmd_replies.specs.declared.answer.Operand.{Operand}
use Rattle.fsmd_replies.specs.declared.answer.Answer.{Answer}
use Rattle.fsmd_replies.specs.declared.answer.Answer.TheVariants.{Usage, Text}
use Rattle.fsmd_replies.specs.AskedFiles.{operand}
use Rattle.fsmd_answers.specs.MachineFiles.{SpellsParts, SpellsMachine}
use Rattle.fs_cut.specs.PathTexts.{paths_text}
use Rattle.fs_write.specs.Canonical.{canonical}
use Rattle.fsmd_answers.specs.Readings.{FileContent, OfBytes, Reading}
use Rattle.fsmd_answers.specs.Refusals.{RefusesMachine, RefusesPair, RefusesCertificate, SpellsCertificate}
use Rattle.fsmd_answers.specs.InputFiles.{RefusesInputs, SpellsInputs}
use Rattle.fsmd_answers.specs.ProgramFiles.{RefusesProgram, SpellsProgram, IsOfProgram}
use Rattle.fsmd_answers.specs.ScheduleFiles.{RefusesUnits, SpellUnits, IsOfSchedule}
use Rattle.fsmd_answers.specs.BindingFiles.{RefusesBinding, SpellsBinding, IsOfBinding}
use Rattle.fsmd_answers.specs.ComparisonAnswers.{IsOfPair, IsOfLoops}
use Rattle.fsmd_pair_answers.specs.Verdicts.{IsJudged}
use Rattle.fsmd_answers.specs.RunAnswers.{IsOfRun}
use Rattle.fsmd_answers.specs.Replays.{IsOfReplay}
use Rattle.fsmd_answers.specs.Shrinks.{IsOfShrink}
use Rattle.fsmd_answers.specs.Links.{AtLink, links_of, IsOfChain}

-- ---- files one after another
-- Each definition says which answer follows from what was read of the files from a number on.

-- no file more is opened, and P says the answer
abbrev pub Ends : (P : Answer → Type 0) → (file : ℕ) → Reading → Answer → Type 0
Ends P file [] answer = P answer
Ends P file (content ∷ rest) answer = ⊥

-- the next file is opened: it is refused, by R, and no file more is opened; or it spells a value, by S, and P says what follows
-- from the files behind it
pub data OpensWith (T : Type 0) (R : Operand → FileContent → Answer → Type 0) (S : T → List ℕ → Type 0)
    (P : T → (file : ℕ) → Reading → Answer → Type 0) (file : ℕ) (content : FileContent) (rest : Reading)
    (answer : Answer) : Type 0 where
  Refused : R (operand file) content answer → rest ≡ [] → OpensWith T R S P file content rest answer
  Spelled : (value : T) → OfBytes content (S value) → P value (file + 1) rest answer → OpensWith T R S P file content rest answer

abbrev pub Opens : (T : Type 0) → (R : Operand → FileContent → Answer → Type 0) → (S : T → List ℕ → Type 0)
    → (P : T → (file : ℕ) → Reading → Answer → Type 0) → (file : ℕ) → Reading → Answer → Type 0
Opens T R S P file [] answer = ⊥
Opens T R S P file (content ∷ rest) answer = OpensWith T R S P file content rest answer

-- the next file is that of a machine, of the parts of one, of inputs of a machine, of a certificate of two machines, of a
-- program, of unit counts, or of a machine's binding
abbrev pub OpensMachine : (P : Fsmd → (file : ℕ) → Reading → Answer → Type 0) → (file : ℕ) → Reading → Answer → Type 0
OpensMachine P file r answer = Opens Fsmd RefusesMachine SpellsMachine P file r answer

abbrev pub OpensParts : (P : Source → (file : ℕ) → Reading → Answer → Type 0) → (file : ℕ) → Reading → Answer → Type 0
OpensParts P file r answer = Opens Source RefusesMachine SpellsParts P file r answer

abbrev pub OpensInputs : Fsmd → (P : Inputs → (file : ℕ) → Reading → Answer → Type 0) → (file : ℕ) → Reading → Answer → Type 0
OpensInputs m P file r answer = Opens Inputs (RefusesInputs m) (SpellsInputs m) P file r answer

abbrev pub OpensCertificate : (a b : Fsmd) → (P : List (Node Fact) → (file : ℕ) → Reading → Answer → Type 0)
    → (file : ℕ) → Reading → Answer → Type 0
OpensCertificate a b P file r answer = Opens (List (Node Fact)) (RefusesCertificate a b) (SpellsCertificate a b) P file r answer

abbrev pub OpensProgram : (P : Program → (file : ℕ) → Reading → Answer → Type 0) → (file : ℕ) → Reading → Answer → Type 0
OpensProgram P file r answer = Opens Program RefusesProgram SpellsProgram P file r answer

abbrev pub OpensUnits : (P : Units → (file : ℕ) → Reading → Answer → Type 0) → (file : ℕ) → Reading → Answer → Type 0
OpensUnits P file r answer = Opens Units RefusesUnits SpellUnits P file r answer

abbrev pub OpensBinding : Fsmd → (P : Binding → (file : ℕ) → Reading → Answer → Type 0) → (file : ℕ) → Reading → Answer → Type 0
OpensBinding m P file r answer = Opens Binding (RefusesBinding m) (SpellsBinding m) P file r answer

-- two machines do not have the same inputs and outputs, which R says of the answer, and no file more is opened; or they have, and
-- P says what follows
pub data ComparesPairs (a b : Fsmd) (R : Answer → Type 0) (P : (file : ℕ) → Reading → Answer → Type 0)
    (file : ℕ) (r : Reading) (answer : Answer) : Type 0 where
  Other : R answer → r ≡ [] → ComparesPairs a b R P file r answer
  SameInterface : interface_fault a b ≡ None → P file r answer → ComparesPairs a b R P file r answer

-- the next two files are those of machines with the same inputs and outputs
abbrev pub OpensPair : (P : (a b : Fsmd) → (file : ℕ) → Reading → Answer → Type 0) → (file : ℕ) → Reading → Answer → Type 0
OpensPair P file r answer = OpensMachine (λ a. OpensMachine (λ b. ComparesPairs a b (RefusesPair a b) (P a b))) file r answer

-- ---- chains

-- the verdict on a certificate of two machines is not yes, which is the answer, told as that of the link of this number, and no
-- file more is opened; or it is yes, and P says what follows
pub data Judges (asked : Option Asked) (link : ℕ) (a b : Fsmd) (nodes : List (Node Fact))
    (P : (file : ℕ) → Reading → Answer → Type 0) (file : ℕ) (r : Reading) (answer : Answer) : Type 0 where
  Fails : verdict_on a b nodes ≢ Yes → AtLink asked link (IsJudged a b nodes) answer → r ≡ []
      → Judges asked link a b nodes P file r answer
  Holds : verdict_on a b nodes ≡ Yes → P file r answer → Judges asked link a b nodes P file r answer

-- the next two files are those of the link of this number: the next machine, and a certificate of it and of the last one. A
-- refusal is told as that of the link
abbrev pub OpensLink : Option Asked → (link : ℕ) → (last : Fsmd) → (P : Fsmd → (file : ℕ) → Reading → Answer → Type 0)
    → (file : ℕ) → Reading → Answer → Type 0
OpensLink asked link last P file r answer =
    Opens Fsmd (λ f c. AtLink asked link (RefusesMachine f c)) SpellsMachine (λ next.
    ComparesPairs last next (AtLink asked link (RefusesPair last next)) (
    Opens (List (Node Fact)) (λ f c. AtLink asked link (RefusesCertificate last next f c)) (SpellsCertificate last next) (λ nodes.
    Judges asked link last next nodes (P next)))) file r answer

-- so many links are left of a chain from the first machine to the last one, of which so many hold
abbrev pub OpensLinks : Option Asked → (first last : Fsmd) → (held left : ℕ) → (file : ℕ) → Reading → Answer → Type 0
OpensLinks asked first last held zero file r answer = Ends (IsOfChain first last held) file r answer
OpensLinks asked first last held (suc left) file r answer =
    OpensLink asked (held + 1) last (λ next. OpensLinks asked first next (held + 1) left) file r answer

-- ---- commands

-- which answer follows for what is asked, or for words that ask nothing, from what was read of the files from a number on
abbrev pub FollowsFrom : Option Asked → (file : ℕ) → Reading → Answer → Type 0
FollowsFrom None = Ends (λ answer. answer ≡ Usage)
FollowsFrom (Some (Check left right cert steps)) = OpensPair (λ a b. Ends (IsOfPair steps (is_some cert) a b))
FollowsFrom (Some (Verify left right cert)) = OpensPair (λ a b. OpensCertificate a b (λ nodes. Ends (IsJudged a b nodes)))
FollowsFrom (Some (Run machine inputs steps)) = OpensMachine (λ m. OpensInputs m (λ ins. Ends (IsOfRun steps m ins)))
FollowsFrom (Some (Replay left right inputs steps)) = OpensPair (λ a b. OpensInputs a (λ ins. Ends (IsOfReplay steps a b ins)))
FollowsFrom (Some (Fmt machine)) = OpensParts (λ parts. Ends (λ answer. answer ≡ Text (canonical parts)))
FollowsFrom (Some (Cuts machine)) = OpensMachine (λ m. Ends (λ answer. answer ≡ Text (paths_text m)))
FollowsFrom (Some (Generate loops)) = Ends (IsOfLoops loops)
FollowsFrom (Some (Compile program)) = OpensProgram (λ p. Ends (IsOfProgram p))
FollowsFrom (Some (Schedule machine units)) = OpensParts (λ parts. OpensUnits (λ counts. Ends (IsOfSchedule parts counts)))
FollowsFrom (Some (Bind machine binding)) =
    OpensParts (λ parts. OpensBinding (machine_of parts) (λ b. Ends (IsOfBinding parts b)))
FollowsFrom (Some (Shrink left right inputs steps)) = OpensPair (λ a b. OpensInputs a (λ ins. Ends (IsOfShrink steps a b ins)))
FollowsFrom (Some (Chain files)) = OpensMachine (λ m. OpensLinks (Some (Chain files)) m m 0 (links_of files))

-- the same from what was read of all files
abbrev pub Follows : Option Asked → Reading → Answer → Type 0
Follows asked r answer = FollowsFrom asked 0 r answer
