-- Where a call ends with a fault, a file, the store of the certificate or the sink failed.
use Rattle.std.proofs.Common.{◌≡◌, ◌∙◌, ℕ, zero, suc, false, ◌+◌, ◌*◌, ◌<◌, ◌≤◌, List, [], ◌∷◌, length, Option, Some, None, sym, ap, subst, arith}
use Rattle.std.specs.Prelude.{is_some}
use Rattle.cert_model.specs.Obligations.{verdict_on}
use Rattle.fsmd_words.specs.AskedWords.{Asked, Check, Verify, Run, Replay, Fmt, Cuts, Generate, Compile, Schedule, Bind, Shrink, Chain}
use Rattle.fs_base.specs.Outside.{FileKnowledge}
use Rattle.fs_model.specs.Machines.{Fsmd}
use Rattle.fs_model.specs.Runs.{Inputs}
use Rattle.fs_model.specs.Source.{Source}
use Rattle.fs_ast.specs.MachineOfParts.{machine_of}
use Rattle.fs_write.specs.Canonical.{canonical}
use Rattle.fs_cut.specs.PathTexts.{paths_text}
use Rattle.cert_bisimulation.specs.Tables.{Node}
use Rattle.sym_facts.specs.Facts.{Fact}
use Rattle.hls_program_parts.specs.Programs.{Program}
use Rattle.hls_unit_counts.specs.Counts.{Units}
use Rattle.fsmd_answers.specs.BindingAnswers.{Binding}
use Rattle.fsmd_replies.specs.declared.answer.Operand.{Operand}
use Rattle.fsmd_replies.specs.declared.answer.Status.TheVariants as statuses
use Rattle.fsmd_replies.specs.declared.answer.Answer.{Answer}
use Rattle.fsmd_replies.specs.declared.answer.Answer.TheVariants.{Usage, Text}
use Rattle.fsmd_replies.specs.Statuses.{status_of, certificate_in}
use Rattle.fsmd_replies.specs.AskedFiles.{operand, files_of, cert_of, generated_steps}
use Rattle.fsmd_answers.specs.MachineFiles.{SpellsParts, SpellsMachine}
use Rattle.fsmd_answers.specs.Readings.{FileContent, Unreadable, Reading}
use Rattle.fsmd_answers.specs.Refusals.{RefusesMachine, RefusesPair, RefusesCertificate, SpellsCertificate}
use Rattle.fsmd_answers.specs.InputFiles.{HasInputFault, RefusesInputs, SpellsInputs}
use Rattle.fsmd_answers.specs.ProgramFiles.{RefusesProgram, SpellsProgram, IsOfProgram}
use Rattle.fsmd_answers.specs.ScheduleFiles.{HaveUnitFault, RefusesUnits, SpellUnits, IsOfSchedule}
use Rattle.fsmd_answers.specs.BindingFiles.{HasBindingFault, RefusesBinding, SpellsBinding, IsOfBinding}
use Rattle.fsmd_answers.specs.ComparisonAnswers.{IsOfPair, IsOfLoops, left_of, right_of}
use Rattle.fsmd_answers.specs.Verdicts.{IsJudged}
use Rattle.fsmd_answers.specs.RunAnswers.{IsOfRun}
use Rattle.fsmd_answers.specs.Replays.{IsOfReplay}
use Rattle.fsmd_answers.specs.Shrinks.{IsOfShrink}
use Rattle.fsmd_answers.specs.Links.{AtLink, links_of, IsOfChain}
use Rattle.fsmd_answers.specs.Follows.{Ends, Opens, Refused, Spelled, ComparesPairs, Other, SameInterface, Judges, Fails, Holds, OpensMachine, OpensInputs}
use Rattle.fsmd_answers.specs.Follows.{OpensCertificate, OpensUnits, OpensBinding, OpensPair, OpensLink, OpensLinks, FollowsFrom}
use Rattle.fsmd_tool.specs.Calls.{Call, known_at_start, FailedToRead, MayBeRead, MayRead, IsCorrectFrom}
use Rattle.fsmd_tool.specs.SinkReplies.{Put, IsPut, Whole, Cut}
use Rattle.fsmd_tool.specs.CertificateStores.{file_change, FileToStore, file_to_store_of, to_store}
use Rattle.fsmd_tool.specs.Correct.{IsCorrectAnswer, IsDone, Kept, Stored, Unstored, Answered}
use Rattle.fsmd_tool.specs.Clauses.{HasCause, FileFailed, CertificateUnstored, SinkFailed}
use Rattle.fsmd_tool.proofs.Answering.{enough}
use Rattle.fsmd_tool.proofs.Linked.{judges, certificates, nexts}
use Rattle.fsmd_tool.proofs.Statuses.{HasStatus, machine_fault, program_fault, keys_fault, certificate_fault, pair_fault, link_status, usage_fault, text_fault}
use Rattle.fsmd_tool.proofs.Statuses.{of_pair_fault, run_fault, replay_fault, shrink_fault, chain_fault, compile_fault, schedule_fault, binding_fault}
use Rattle.fsmd_tool.proofs.Statuses.{judged_fault}

-- ---- files one after another

-- a file of the first so many failed to be read
record OneFailed (g : Call) (files : ℕ) : Type 0 where
  file : ℕ
  within : file < files
  failed : FailedToRead g (operand file)

faulted : (k : FileKnowledge) (F : Type 0) (c : FileContent) → MayBeRead k F c → c ≡ Unreadable → F
faulted k F c m e = subst (λ d. MayBeRead k F d) e m

module _ (g : Call) (files : ℕ) (x : Answer) where
  module _ (T : Type 0) (R : Operand → FileContent → Answer → Type 0) (S : T → List ℕ → Type 0) (P : T → (file : ℕ) → Reading → Answer → Type 0) (n : ℕ) where
    opens_by : (r : Reading) → n < files → ((c : FileContent) → R (operand n) c x → c ≡ Unreadable)
        → ((v : T) → IsCorrectFrom (P v) (n + 1) g x → OneFailed g files) → MayRead g n r → Opens T R S P n r x → OneFailed g files
    opens_by [] within own behind may o = absurd o
    opens_by (c ∷ rest) within own behind may (Refused p e) =
        record { file = n; within = within; failed = faulted (known_at_start g (operand n)) (FailedToRead g (operand n)) c may.0 (own c p) }
    opens_by (c ∷ rest) within own behind may (Spelled v h p) = behind v (record { reading = rest; may_be_read = may.1; follows = p })

    -- the next file failed, or one behind it
    opens : n < files → ((c : FileContent) → R (operand n) c x → c ≡ Unreadable) → ((v : T) → IsCorrectFrom (P v) (n + 1) g x → OneFailed g files)
        → IsCorrectFrom (Opens T R S P) n g x → OneFailed g files
    opens within own behind c = opens_by c.reading within own behind c.may_be_read c.follows

  -- no file more is opened
  ends_by : (P : Answer → Type 0) (n : ℕ) (r : Reading) → (P x → ⊥) → Ends P n r x → OneFailed g files
  ends_by P n [] never h = absurd (never h)
  ends_by P n (c ∷ rest) never h = absurd h

  ends : (P : Answer → Type 0) (n : ℕ) → (P x → ⊥) → IsCorrectFrom (Ends P) n g x → OneFailed g files
  ends P n never c = ends_by P n c.reading never c.follows

  -- two machines have the same inputs and outputs
  module _ (a b : Fsmd) (R : Answer → Type 0) (P : (file : ℕ) → Reading → Answer → Type 0) (n : ℕ) where
    pairs_by : (r : Reading) → (R x → ⊥) → (IsCorrectFrom P n g x → OneFailed g files) → MayRead g n r → ComparesPairs a b R P n r x → OneFailed g files
    pairs_by r never behind may (Other p e) = absurd (never p)
    pairs_by r never behind may (SameInterface e p) = behind (record { reading = r; may_be_read = may; follows = p })

    pairs : (R x → ⊥) → (IsCorrectFrom P n g x → OneFailed g files) → IsCorrectFrom (ComparesPairs a b R P) n g x → OneFailed g files
    pairs never behind c = pairs_by c.reading never behind c.may_be_read c.follows

  -- the status is of a fault
  module _ (s : HasStatus statuses.Fault x) where
    machine : (P : Fsmd → (file : ℕ) → Reading → Answer → Type 0) (n : ℕ) → n < files → ((m : Fsmd) → IsCorrectFrom (P m) (n + 1) g x → OneFailed g files)
        → IsCorrectFrom (OpensMachine P) n g x → OneFailed g files
    machine P n within behind c = opens Fsmd RefusesMachine SpellsMachine P n within (λ d p. machine_fault (operand n) d x p s) behind c

    parts : (P : Source → (file : ℕ) → Reading → Answer → Type 0) → 0 < files → ((p : Source) → IsCorrectFrom (P p) 1 g x → OneFailed g files)
        → IsCorrectFrom (Opens Source RefusesMachine SpellsParts P) 0 g x → OneFailed g files
    parts P within behind c = opens Source RefusesMachine SpellsParts P 0 within (λ d p. machine_fault (operand 0) d x p s) behind c

    inputs : (m : Fsmd) (Q : Inputs → Answer → Type 0) (n : ℕ) → n < files → ((ins : Inputs) → Q ins x → ⊥)
        → IsCorrectFrom (OpensInputs m (λ ins. Ends (Q ins))) n g x → OneFailed g files
    inputs m Q n within never c =
        opens Inputs (RefusesInputs m) (SpellsInputs m) (λ ins. Ends (Q ins)) n within (λ d p. keys_fault (HasInputFault m) (operand n) d x p s)
        (λ ins d. ends (Q ins) (n + 1) (never ins) d) c

    pair : (P : (a b : Fsmd) → (file : ℕ) → Reading → Answer → Type 0) → 1 < files → ((a b : Fsmd) → IsCorrectFrom (P a b) 2 g x → OneFailed g files)
        → IsCorrectFrom (OpensPair P) 0 g x → OneFailed g files
    pair P within behind c =
        machine (λ a. OpensMachine (λ b. ComparesPairs a b (RefusesPair a b) (P a b))) 0 (omega (arith, within))
        (λ a d. machine (λ b. ComparesPairs a b (RefusesPair a b) (P a b)) 1 within
        (λ b e. pairs a b (RefusesPair a b) (P a b) 2 (λ p. pair_fault a b x p s) (behind a b) e) d) c

    -- ---- chains

    module _ (o : Option Asked) (k : ℕ) (a b : Fsmd) (nodes : List (Node Fact)) (P : (file : ℕ) → Reading → Answer → Type 0) (n : ℕ) where
      judges_by : (r : Reading) → (IsCorrectFrom P n g x → OneFailed g files) → MayRead g n r → Judges o k a b nodes P n r x → OneFailed g files
      judges_by r behind may (Fails other l e) =
          absurd (judged_fault a b (verdict_on a b nodes) l.stop l.meets.is (link_status statuses.Fault o k (IsJudged a b nodes) x l s))
      judges_by r behind may (Holds hold p) = behind (record { reading = r; may_be_read = may; follows = p })

    link : (o : Option Asked) (k : ℕ) (last : Fsmd) (P : Fsmd → (file : ℕ) → Reading → Answer → Type 0) (n : ℕ) → n + 1 < files
        → ((b : Fsmd) → IsCorrectFrom (P b) (n + 1 + 1) g x → OneFailed g files)
        → IsCorrectFrom (OpensLink o k last P) n g x → OneFailed g files
    link o k last P n within behind c =
        opens Fsmd (λ f d. AtLink o k (RefusesMachine f d)) SpellsMachine (nexts o k last P) n (omega (arith, within))
        (λ d l. machine_fault (operand n) d l.stop l.meets (link_status statuses.Fault o k (RefusesMachine (operand n) d) x l s))
        (λ b e. pairs last b (AtLink o k (RefusesPair last b)) (certificates o k last b (P b)) (n + 1)
        (λ l. pair_fault last b l.stop l.meets (link_status statuses.Fault o k (RefusesPair last b) x l s))
        (λ h. opens (List (Node Fact)) (λ f d. AtLink o k (RefusesCertificate last b f d)) (SpellsCertificate last b) (judges o k last b (P b)) (n + 1) within
        (λ d l. certificate_fault last b (operand (n + 1)) d l.stop l.meets
        (link_status statuses.Fault o k (RefusesCertificate last b (operand (n + 1)) d) x l s))
        (λ nodes j. judges_by o k last b nodes (P b) (n + 1 + 1) j.reading (behind b) j.may_be_read j.follows) h) e) c

    links : (o : Option Asked) (first last : Fsmd) (have left n : ℕ) → n + 2 * left ≤ files → IsCorrectFrom (OpensLinks o first last have left) n g x
        → OneFailed g files
    links o first last have zero n within c = ends (IsOfChain first last have) n (λ p. chain_fault first last have x p s) c
    links o first last have (suc left) n within c =
        link o (have + 1) last (λ b. OpensLinks o first b (have + 1) left) n (omega (arith, within))
        (λ b d. links o first b (have + 1) left (n + 1 + 1) (omega (arith, within)) d) c

-- ---- commands

unread : (g : Call) (x : Answer) → HasStatus statuses.Fault x → (o : Option Asked) → IsCorrectFrom (FollowsFrom o) 0 g x → OneFailed g (length (files_of o))
unread g x s None c = ends g 0 x (λ answer. answer ≡ Usage) 0 (λ e. usage_fault x e s) c
unread g x s (Some (Check left right cert steps)) c =
    pair g 2 x s (λ a b. Ends (IsOfPair steps (is_some cert) a b)) (omega arith)
    (λ a b d. ends g 2 x (IsOfPair steps (is_some cert) a b) 2 (λ p. of_pair_fault steps (is_some cert) a b x p s) d) c
unread g x s (Some (Verify left right cert)) c =
    pair g 3 x s (λ a b. OpensCertificate a b (λ nodes. Ends (IsJudged a b nodes))) (omega arith)
    (λ a b d. opens g 3 x (List (Node Fact)) (RefusesCertificate a b) (SpellsCertificate a b) (λ nodes. Ends (IsJudged a b nodes)) 2 (omega arith)
    (λ e p. certificate_fault a b (operand 2) e x p s)
    (λ nodes e. ends g 3 x (IsJudged a b nodes) 3 (λ j. judged_fault a b (verdict_on a b nodes) x j.is s) e) d) c
unread g x s (Some (Run machine_word inputs_word steps)) c =
    machine g 2 x s (λ m. OpensInputs m (λ ins. Ends (IsOfRun steps m ins))) 0 (omega arith)
    (λ m d. inputs g 2 x s m (IsOfRun steps m) 1 (omega arith) (λ ins p. run_fault steps m ins x p s) d) c
unread g x s (Some (Replay left right inputs_word steps)) c =
    pair g 3 x s (λ a b. OpensInputs a (λ ins. Ends (IsOfReplay steps a b ins))) (omega arith)
    (λ a b d. inputs g 3 x s a (IsOfReplay steps a b) 2 (omega arith) (λ ins p. replay_fault steps a b ins x p s) d) c
unread g x s (Some (Fmt machine_word)) c =
    parts g 1 x s (λ p. Ends (λ answer. answer ≡ Text (canonical p))) (omega arith)
    (λ p d. ends g 1 x (λ answer. answer ≡ Text (canonical p)) 1 (λ e. text_fault (canonical p) x e s) d) c
unread g x s (Some (Cuts machine_word)) c =
    machine g 1 x s (λ m. Ends (λ answer. answer ≡ Text (paths_text m))) 0 (omega arith)
    (λ m d. ends g 1 x (λ answer. answer ≡ Text (paths_text m)) 1 (λ e. text_fault (paths_text m) x e s) d) c
unread g x s (Some (Generate n)) c = ends g 0 x (IsOfLoops n) 0 (λ p. of_pair_fault generated_steps false (left_of n) (right_of n) x p s) c
unread g x s (Some (Compile program)) c =
    opens g 1 x Program RefusesProgram SpellsProgram (λ p. Ends (IsOfProgram p)) 0 (omega arith) (λ d p. program_fault (operand 0) d x p s)
    (λ p d. ends g 1 x (IsOfProgram p) 1 (λ l. compile_fault p x l s) d) c
unread g x s (Some (Schedule machine_word units_word)) c =
    parts g 2 x s (λ p. OpensUnits (λ u. Ends (IsOfSchedule p u))) (omega arith)
    (λ p d. opens g 2 x Units RefusesUnits SpellUnits (λ u. Ends (IsOfSchedule p u)) 1 (omega arith) (λ e r. keys_fault HaveUnitFault (operand 1) e x r s)
    (λ u e. ends g 2 x (IsOfSchedule p u) 2 (λ q. schedule_fault p u x q s) e) d) c
unread g x s (Some (Bind machine_word binding_word)) c =
    parts g 2 x s (λ p. OpensBinding (machine_of p) (λ b. Ends (IsOfBinding p b))) (omega arith)
    (λ p d. opens g 2 x Binding (RefusesBinding (machine_of p)) (SpellsBinding (machine_of p)) (λ b. Ends (IsOfBinding p b)) 1 (omega arith)
    (λ e r. keys_fault (HasBindingFault (machine_of p)) (operand 1) e x r s)
    (λ b e. ends g 2 x (IsOfBinding p b) 2 (λ q. binding_fault p b x q s) e) d) c
unread g x s (Some (Shrink left right inputs_word steps)) c =
    pair g 3 x s (λ a b. OpensInputs a (λ ins. Ends (IsOfShrink steps a b ins))) (omega arith)
    (λ a b d. inputs g 3 x s a (IsOfShrink steps a b) 2 (omega arith) (λ ins p. shrink_fault steps a b ins x p s) d) c
unread g x s (Some (Chain files)) c =
    let all = enough files in
    machine g (length (files_of (Some (Chain files)))) x s (λ m. OpensLinks (Some (Chain files)) m m 0 (links_of files)) 0 (omega (arith, all))
    (λ m d. links g (length (files_of (Some (Chain files)))) x s (Some (Chain files)) m m 0 (links_of files) 1 all d) c

file_cause : (g : Call) (p : Put) (x : Answer) → IsCorrectAnswer g x → HasStatus statuses.Fault x → HasCause g p
file_cause g p x c e = let u = unread g x e g.asked c in FileFailed u.file u.within u.failed

-- ---- what was put

put_cause : (g : Call) (p : Put) (x : Answer) (reply : List ℕ) → IsCorrectAnswer g x → p.status ≡ statuses.Fault → IsPut reply (status_of x) p → HasCause g p
put_cause g p x reply c e (Whole w) = file_cause g p x c (sym w.status ∙ e)
put_cause g p x reply c e (Cut w) = SinkFailed w.failed

pub entry_named : (cert text : Option (List ℕ)) (x : FileToStore) → file_to_store_of cert text ≡ Some x → cert ≡ Some x.name
entry_named None text x e = absurd (cc)
entry_named (Some name) None x e = absurd (cc)
entry_named (Some name) (Some bytes) x e = let same : record { name = name; bytes = bytes } ≡ x = cc in ap (λ (z : FileToStore). Some z.name) same

done_cause : (g : Call) (p : Put) (x : Answer) → IsCorrectAnswer g x → p.status ≡ statuses.Fault
    → (reply : List ℕ) → IsDone (to_store g.asked x) reply (status_of x) (file_change g.before g.now) p → HasCause g p
done_cause g p x c e reply (Kept none k put) = put_cause g p x reply c e put
done_cause g p x c e reply (Stored y some k put) = put_cause g p x reply c e put
done_cause g p x c e reply (Unstored y some u put) = CertificateUnstored y.name (entry_named (cert_of g.asked) (certificate_in x) y some) u.failed

pub has_cause : (g : Call) (p : Put) → Answered g p → p.status ≡ statuses.Fault → HasCause g p
has_cause g p a e = done_cause g p a.answer a.correct e _ a.done
