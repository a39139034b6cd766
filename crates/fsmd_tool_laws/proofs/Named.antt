-- No file is opened that is not named.
use Rattle.std.proofs.Common.{◌≡◌, ℕ, suc, ◌+◌, ◌≤◌, List, [], ◌∷◌, length, Option, Some, None, ap, arith}
use Rattle.std.specs.Prelude.{is_some}
use Rattle.fsmd_words.specs.AskedWords.{Asked, Check, Verify, Run, Replay, Fmt, Cuts, Generate, Compile, Schedule, Bind, Shrink, Chain}
use Rattle.fs_model.specs.Machines.{Fsmd}
use Rattle.fs_model.specs.Source.{Source}
use Rattle.fs_model.specs.Runs.{Inputs}
use Rattle.fs_rules.specs.MachineOfParts.{machine_of}
use Rattle.fs_write.specs.Canonical.{canonical}
use Rattle.fs_cut.specs.PathTexts.{paths_text}
use Rattle.hls_program_parts.specs.Programs.{Program}
use Rattle.hls_unit_counts.specs.Counts.{Units}
use Rattle.fsmd_synthesis_answers.specs.BindingAnswers.{Binding}
use Rattle.cert_bisimulation.specs.Tables.{Node}
use Rattle.sym_facts.specs.Facts.{Fact}
use Rattle.fsmd_replies.specs.declared.answer.Operand.{Operand}
use Rattle.fsmd_replies.specs.declared.answer.Answer.{Answer}
use Rattle.fsmd_replies.specs.declared.answer.Answer.TheVariants.{Usage, Text}
use Rattle.fsmd_replies.specs.AskedFiles.{in_links, files_of}
use Rattle.fsmd_tool.specs.MachineFiles.{SpellsParts, SpellsMachine}
use Rattle.fsmd_tool.specs.Readings.{FileContent, Reading}
use Rattle.fsmd_tool.specs.Refusals.{RefusesMachine, RefusesPair, RefusesCertificate, SpellsCertificate}
use Rattle.fsmd_tool.specs.InputFiles.{SpellsInputs, RefusesInputs}
use Rattle.fsmd_tool.specs.ProgramFiles.{RefusesProgram, SpellsProgram, IsOfProgram}
use Rattle.fsmd_tool.specs.ScheduleFiles.{RefusesUnits, SpellUnits, IsOfSchedule}
use Rattle.fsmd_tool.specs.BindingFiles.{RefusesBinding, SpellsBinding, IsOfBinding}
use Rattle.fsmd_tool.specs.ComparisonAnswers.{IsOfPair, IsOfLoops}
use Rattle.fsmd_tool.specs.Verdicts.{IsJudged}
use Rattle.fsmd_tool.specs.RunAnswers.{IsOfRun}
use Rattle.fsmd_tool.specs.Replays.{IsOfReplay}
use Rattle.fsmd_tool.specs.Shrinks.{IsOfShrink}
use Rattle.fsmd_tool.specs.Links.{AtLink, links_in, IsOfChain}
use Rattle.fsmd_tool.specs.Follows.{Ends, OpensWith, Refused, Spelled, Opens, OpensMachine, OpensInputs, OpensCertificate, OpensUnits, OpensBinding}
use Rattle.fsmd_tool.specs.Follows.{ComparesPairs, Other, SameInterface, OpensPair, Judges, Fails, Holds, OpensLinks, FollowsFrom}
use Rattle.fsmd_tool_laws.proofs.Following.{Rule, BehindCertificate, BehindPair, BehindMachine}

-- an answer follows by P from at most so many files
abbrev pub IsWithin : ℕ → Rule → Type 0
IsWithin n P = (file : ℕ) (r : Reading) (x : Answer) → P file r x → length r ≤ n

few : (n : ℕ) → 0 ≤ n
few n = omega arith

pub suc_le_suc : (n k : ℕ) → n ≤ k → suc n ≤ suc k
suc_le_suc n k h = omega arith

-- where no file more was opened
pub at_end : (r : Reading) (n : ℕ) → r ≡ [] → length r ≤ n
at_end r n e = let l : length r ≡ 0 = ap length e in omega arith

pub ends : (n : ℕ) (P : Answer → Type 0) → IsWithin n (Ends P)
ends n P file [] x p = few n
ends n P file (c ∷ r) x p = absurd p

module _ (T : Type 0) (R : Operand → FileContent → Answer → Type 0) (S : T → List ℕ → Type 0) (P : T → Rule) (n : ℕ) (within : (v : T) → IsWithin n (P v)) where
  opened : (file : ℕ) (c : FileContent) (r : Reading) (x : Answer) → OpensWith T R S P file c r x → length r ≤ n
  opened file c r x (Refused p e) = at_end r n e
  opened file c r x (Spelled v l p) = within v (file + 1) r x p

  pub opens : IsWithin (suc n) (Opens T R S P)
  opens file [] x p = absurd p
  opens file (c ∷ r) x p = suc_le_suc (length r) n (opened file c r x p)

pairs : (a b : Fsmd) (R : Answer → Type 0) (P : Rule) (n : ℕ) → IsWithin n P → IsWithin n (ComparesPairs a b R P)
pairs a b R P n within file r x (Other p e) = at_end r n e
pairs a b R P n within file r x (SameInterface i p) = within file r x p

judges : (o : Option Asked) (link : ℕ) (a b : Fsmd) (nodes : List (Node Fact)) (P : Rule) (n : ℕ) → IsWithin n P → IsWithin n (Judges o link a b nodes P)
judges o link a b nodes P n within file r x (Fails v p e) = at_end r n e
judges o link a b nodes P n within file r x (Holds v p) = within file r x p

pair : (P : Fsmd → Fsmd → Rule) (n : ℕ) → ((a b : Fsmd) → IsWithin n (P a b)) → IsWithin (suc (suc n)) (OpensPair P)
pair P n within =
    opens Fsmd RefusesMachine SpellsMachine (λ a. OpensMachine (λ b. ComparesPairs a b (RefusesPair a b) (P a b))) (suc n) (λ a.
    opens Fsmd RefusesMachine SpellsMachine (λ b. ComparesPairs a b (RefusesPair a b) (P a b)) n (λ b.
    pairs a b (RefusesPair a b) (P a b) n (within a b)))

inputs : (m : Fsmd) (P : Inputs → Answer → Type 0) → IsWithin 1 (OpensInputs m (λ ins. Ends (P ins)))
inputs m P = opens Inputs (RefusesInputs m) (SpellsInputs m) (λ ins. Ends (P ins)) 0 (λ ins. ends 0 (P ins))

links : (o : Option Asked) (first last : Fsmd) (held : ℕ) (words : List (List ℕ))
    → IsWithin (length (in_links words)) (OpensLinks o first last held (links_in words))
links o first last held [] file r x p = ends 0 (IsOfChain first last held) file r x p
links o first last held (certificate ∷ []) file r x p = ends 1 (IsOfChain first last held) file r x p
links o first last held (certificate ∷ machine ∷ words) file r x p =
    let n = length (in_links words) in
    let P : Fsmd → Rule = λ next. OpensLinks o first next (held + 1) (links_in words) in
    opens Fsmd (λ f c. AtLink o (held + 1) (RefusesMachine f c)) SpellsMachine (BehindMachine o (held + 1) last P) (suc n) (λ next.
    pairs last next (AtLink o (held + 1) (RefusesPair last next)) (BehindPair o (held + 1) last next P) (suc n)
    (opens (List (Node Fact)) (λ f c. AtLink o (held + 1) (RefusesCertificate last next f c)) (SpellsCertificate last next)
    (BehindCertificate o (held + 1) last next P) n (λ nodes.
    judges o (held + 1) last next nodes (P next) n (links o first next (held + 1) words)))) file r x p

chain : (o : Option Asked) (words : List (List ℕ)) → IsWithin (suc (length (in_links words))) (OpensMachine (λ m. OpensLinks o m m 0 (links_in words)))
chain o words = opens Fsmd RefusesMachine SpellsMachine (λ m. OpensLinks o m m 0 (links_in words)) (length (in_links words)) (λ m. links o m m 0 words)

pub named_only : (o : Option Asked) → IsWithin (length (files_of o)) (FollowsFrom o)
named_only None = ends 0 (λ x. x ≡ Usage)
named_only (Some (Check left right cert steps)) = pair (λ a b. Ends (IsOfPair steps (is_some cert) a b)) 0 (λ a b. ends 0 (IsOfPair steps (is_some cert) a b))
named_only (Some (Verify left right cert)) =
    pair (λ a b. OpensCertificate a b (λ nodes. Ends (IsJudged a b nodes))) 1 (λ a b.
    opens (List (Node Fact)) (RefusesCertificate a b) (SpellsCertificate a b) (λ nodes. Ends (IsJudged a b nodes)) 0 (λ nodes. ends 0 (IsJudged a b nodes)))
named_only (Some (Run machine ins steps)) =
    opens Fsmd RefusesMachine SpellsMachine (λ m. OpensInputs m (λ i. Ends (IsOfRun steps m i))) 1 (λ m. inputs m (IsOfRun steps m))
named_only (Some (Replay left right ins steps)) = pair (λ a b. OpensInputs a (λ i. Ends (IsOfReplay steps a b i))) 1 (λ a b. inputs a (IsOfReplay steps a b))
named_only (Some (Fmt machine)) =
    opens Source RefusesMachine SpellsParts (λ parts. Ends (λ x. x ≡ Text (canonical parts))) 0 (λ parts. ends 0 (λ x. x ≡ Text (canonical parts)))
named_only (Some (Cuts machine)) =
    opens Fsmd RefusesMachine SpellsMachine (λ m. Ends (λ x. x ≡ Text (paths_text m))) 0 (λ m. ends 0 (λ x. x ≡ Text (paths_text m)))
named_only (Some (Generate loops)) = ends 0 (IsOfLoops loops)
named_only (Some (Compile program)) = opens Program RefusesProgram SpellsProgram (λ p. Ends (IsOfProgram p)) 0 (λ p. ends 0 (IsOfProgram p))
named_only (Some (Schedule machine counts)) =
    opens Source RefusesMachine SpellsParts (λ parts. OpensUnits (λ units. Ends (IsOfSchedule parts units))) 1 (λ parts.
    opens Units RefusesUnits SpellUnits (λ units. Ends (IsOfSchedule parts units)) 0 (λ units. ends 0 (IsOfSchedule parts units)))
named_only (Some (Bind machine binding)) =
    opens Source RefusesMachine SpellsParts (λ parts. OpensBinding (machine_of parts) (λ b. Ends (IsOfBinding parts b))) 1 (λ parts.
    opens Binding (RefusesBinding (machine_of parts)) (SpellsBinding (machine_of parts)) (λ b. Ends (IsOfBinding parts b)) 0
    (λ b. ends 0 (IsOfBinding parts b)))
named_only (Some (Shrink left right ins steps)) = pair (λ a b. OpensInputs a (λ i. Ends (IsOfShrink steps a b i))) 1 (λ a b. inputs a (IsOfShrink steps a b))
named_only (Some (Chain [])) = opens Fsmd RefusesMachine SpellsMachine (λ m. OpensLinks (Some (Chain [])) m m 0 0) 0 (λ m. ends 0 (IsOfChain m m 0))
named_only (Some (Chain (machine ∷ words))) = chain (Some (Chain (machine ∷ words))) words
