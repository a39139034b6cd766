-- At most one answer is correct, and machines are answered.
use Rattle.std.proofs.Common.{◌≡◌, ℕ, suc, ◌+◌, ◌<◌, List, [], ◌∷◌, length, Option, Some, true, false, ◌∙◌, ap, subst, arith}
use Rattle.std.specs.Prelude.{is_some, codes}
use Rattle.fsmd_words.specs.AskedWords.{Asked, Check, Verify, Run, Replay, Fmt, Cuts, Generate, Compile, Schedule, Bind, Shrink}
use Rattle.fs_model.specs.Machines.{Fsmd}
use Rattle.fs_model.specs.Runs.{Inputs}
use Rattle.fs_model.specs.Source.{Source}
use Rattle.fs_rules.specs.MachineOfParts.{machine_of}
use Rattle.fs_write.specs.Canonical.{canonical}
use Rattle.fs_cut.specs.PathTexts.{paths_text}
use Rattle.hls_program_parts.specs.Programs.{Program}
use Rattle.hls_unit_counts.specs.Counts.{Units}
use Rattle.cert_bisimulation.specs.Tables.{Node}
use Rattle.sym_facts.specs.Facts.{Fact}
use Rattle.fsmd_replies.specs.SearchTables.{machines}
use Rattle.search_laws.specs.Certificates.{IsCertificate}
use Rattle.fsmd_synthesis_answers.specs.BindingAnswers.{Binding}
use Rattle.fsmd_replies.specs.declared.answer.Answer.{Answer}
use Rattle.fsmd_replies.specs.declared.answer.Answer.TheVariants.{Text}
use Rattle.fsmd_replies.specs.AskedFiles.{operand, cert_of, is_check, is_verify, compares, step_limit}
use Rattle.fsmd_tool.specs.MachineFiles.{SpellsParts, SpellsMachine}
use Rattle.fsmd_tool.specs.Readings.{Reading}
use Rattle.fsmd_tool.specs.Refusals.{RefusesMachine, RefusesCertificate, SpellsCertificate}
use Rattle.fsmd_tool.specs.InputFiles.{SpellsInputs, RefusesInputs}
use Rattle.fsmd_tool.specs.ProgramFiles.{RefusesProgram, SpellsProgram, IsOfProgram}
use Rattle.fsmd_tool.specs.ScheduleFiles.{RefusesUnits, SpellUnits, IsOfSchedule}
use Rattle.fsmd_tool.specs.BindingFiles.{RefusesBinding, SpellsBinding, IsOfBinding}
use Rattle.fsmd_tool.specs.ComparisonAnswers.{IsOfPair, IsOfLoops}
use Rattle.fsmd_tool.specs.Verdicts.{IsJudged, answer_to}
use Rattle.fsmd_tool.specs.RunAnswers.{IsOfRun}
use Rattle.fsmd_tool.specs.Replays.{IsOfReplay}
use Rattle.fsmd_tool.specs.Shrinks.{IsOfShrink}
use Rattle.fsmd_tool.specs.Follows.{Ends, OpensInputs, OpensCertificate, OpensUnits, OpensBinding, FollowsFrom}
use Rattle.fsmd_tool.specs.Calls.{Call, known_at_start, FailedToRead, MayRead, IsCorrectFrom}
use Rattle.fsmd_tool.specs.Correct.{IsCorrectAnswer}
use Rattle.fsmd_tool.proofs.Found.{end_of}
use Rattle.fsmd_tool_laws.specs.Agreement.{Agree}
use Rattle.fsmd_tool_laws.specs.Settled.{IsSettled, AreSettled, IsKnown, SpellPair}
use Rattle.fsmd_tool_laws.specs.OneAnswer.{SaySame}
use Rattle.fsmd_tool_laws.proofs.Files.{machine_opens, parts_open}
use Rattle.fsmd_tool_laws.proofs.Inputs.{inputs_open}
use Rattle.fsmd_tool_laws.proofs.UnitFiles.{units_open}
use Rattle.fsmd_tool_laws.proofs.BindingFiles.{binding_opens}
use Rattle.fsmd_tool_laws.proofs.ProgramFiles.{program_opens}
use Rattle.fsmd_tool_laws.proofs.Certificates.{ReadInOneWay, certificate_opens}
use Rattle.fsmd_tool_laws.proofs.Following.{follows_one, uncompared_one}
use Rattle.fsmd_tool_laws.proofs.Known.{settled_same, opened, paired}

-- ---- what is settled was read in one way

-- a number below that of the files of a shorter reading
pub below : (k file n : ℕ) → k < file + 1 + n → k < file + suc n
below k file n h = omega arith

pub first_below : (file n : ℕ) → file < file + suc n
first_below file n = omega arith

agree_from : (g : Call) (file : ℕ) (r s : Reading) → MayRead g file r → MayRead g file s → ((k : ℕ) → k < file + length r → k < file + length s → IsSettled g k)
    → Agree r s
agree_from g file [] s m n h = tt
agree_from g file (c ∷ r) [] m n h = tt
agree_from g file (c ∷ r) (d ∷ s) m n h = (
  settled_same (known_at_start g (operand file)) (FailedToRead g (operand file)) c d
      (h file (first_below file (length r)) (first_below file (length s))) m.0 n.0,
  agree_from g (file + 1) r s m.1 n.1 (λ k a b. h k (below k file (length r) a) (below k file (length s) b)),
)

pub below_sum : (k n : ℕ) → k < 0 + n → k < n
below_sum k n h = omega arith

agree : (g : Call) (x y : Answer) (p : IsCorrectAnswer g x) (q : IsCorrectAnswer g y) → AreSettled g p.reading q.reading → Agree p.reading q.reading
agree g x y p q s =
    agree_from g 0 p.reading q.reading p.may_be_read q.may_be_read (λ k a b. s.settled k (below_sum k (length p.reading) a) (below_sum k (length q.reading) b))

pub correct_once : (w : ReadInOneWay) → (g : Call) (x y : Answer) (p : IsCorrectAnswer g x) (q : IsCorrectAnswer g y) → AreSettled g p.reading q.reading
    → SaySame g.asked q.reading x y
correct_once w g x y p q s = (follows_one w g.asked 0 p.reading q.reading x y (agree g x y p q s) p.follows q.follows).1

pub correct_one : (w : ReadInOneWay) → (g : Call) (x y : Answer) → compares g.asked ≡ false → (p : IsCorrectAnswer g x) (q : IsCorrectAnswer g y)
    → AreSettled g p.reading q.reading → x ≡ y
correct_one w g x y e p q s = uncompared_one g.asked q.reading x y e (correct_once w g x y p q s)

-- ---- two machines

not_true : false ≡ true → ⊥
not_true e = cc

check_answered : (o : Option Asked) (g : Call) (x : Answer) (a b : Fsmd) → SpellPair g a b → is_check o ≡ true → IsCorrectFrom (FollowsFrom o) 0 g x
    → IsOfPair (step_limit o) (is_some (cert_of o)) a b x
check_answered (Some (Check left right cert steps)) g x a b k e p =
    end_of (IsOfPair steps (is_some cert) a b) 2 g x (paired (λ m n. Ends (IsOfPair steps (is_some cert) m n)) g a b x k p)
check_answered o g x a b k e p = absurd (not_true e)

pub machines_checked : (g : Call) (x : Answer) (a b : Fsmd) → is_check g.asked ≡ true → SpellPair g a b → IsCorrectAnswer g x
    → IsOfPair (step_limit g.asked) (is_some (cert_of g.asked)) a b x
machines_checked g x a b e k p = check_answered g.asked g x a b k e p

verify_answered : (w : ReadInOneWay) → (o : Option Asked) (g : Call) (x : Answer) (a b : Fsmd) (nodes : List (Node Fact)) → SpellPair g a b
    → IsKnown g 2 (SpellsCertificate a b nodes) → is_verify o ≡ true → IsCorrectFrom (FollowsFrom o) 0 g x
    → IsJudged a b nodes x
verify_answered w (Some (Verify left right cert)) g x a b nodes k n e p =
    end_of (IsJudged a b nodes) 3 g x
    (opened (List (Node Fact)) (RefusesCertificate a b) (SpellsCertificate a b) (certificate_opens w a b) (λ c. Ends (IsJudged a b c)) g 2 nodes x n
    (paired (λ l r. OpensCertificate l r (λ c. Ends (IsJudged l r c))) g a b x k p))
verify_answered w o g x a b nodes k n e p = absurd (not_true e)

pub certificate_judged : (w : ReadInOneWay) → (g : Call) (x : Answer) (a b : Fsmd) (nodes : List (Node Fact)) → is_verify g.asked ≡ true → SpellPair g a b
    → IsKnown g 2 (SpellsCertificate a b nodes) → IsCorrectAnswer g x → IsJudged a b nodes x
certificate_judged w g x a b nodes e k n p = verify_answered w g.asked g x a b nodes k n e p

-- what follows from what is asked
pub asked_so : (g : Call) (x : Answer) (o : Option Asked) → g.asked ≡ o → IsCorrectAnswer g x → IsCorrectFrom (FollowsFrom o) 0 g x
asked_so g x o e p = subst (λ q. IsCorrectFrom (FollowsFrom q) 0 g x) e p

pub loops_answered : (g : Call) (x : Answer) (loops : ℕ) → g.asked ≡ Some (Generate loops) → IsCorrectAnswer g x → IsOfLoops loops x
loops_answered g x loops e p = end_of (IsOfLoops loops) 0 g x (asked_so g x (Some (Generate loops)) e p)

inputs_answered : (m : Fsmd) (P : Inputs → Answer → Type 0) (g : Call) (file : ℕ) (ins : Inputs) (x : Answer) → IsKnown g file (SpellsInputs m ins)
    → IsCorrectFrom (OpensInputs m (λ i. Ends (P i))) file g x → P ins x
inputs_answered m P g file ins x k p =
    end_of (P ins) (file + 1) g x (opened Inputs (RefusesInputs m) (SpellsInputs m) (inputs_open m) (λ i. Ends (P i)) g file ins x k p)

pub run_answered : (g : Call) (x : Answer) (machine inputs : List ℕ) (steps : ℕ) (m : Fsmd) (ins : Inputs) → g.asked ≡ Some (Run machine inputs steps)
    → IsKnown g 0 (SpellsMachine m) → IsKnown g 1 (SpellsInputs m ins) → IsCorrectAnswer g x
    → IsOfRun steps m ins x
run_answered g x machine inputs steps m ins e k i p =
    inputs_answered m (IsOfRun steps m) g 1 ins x i
    (opened Fsmd RefusesMachine SpellsMachine machine_opens (λ n. OpensInputs n (λ j. Ends (IsOfRun steps n j))) g 0 m x k
    (asked_so g x (Some (Run machine inputs steps)) e p))

pub replay_answered : (g : Call) (x : Answer) (left right inputs : List ℕ) (steps : ℕ) (a b : Fsmd) (ins : Inputs)
    → g.asked ≡ Some (Replay left right inputs steps) → SpellPair g a b → IsKnown g 2 (SpellsInputs a ins) → IsCorrectAnswer g x
    → IsOfReplay steps a b ins x
replay_answered g x left right inputs steps a b ins e k i p =
    inputs_answered a (IsOfReplay steps a b) g 2 ins x i
    (paired (λ m n. OpensInputs m (λ j. Ends (IsOfReplay steps m n j))) g a b x k (asked_so g x (Some (Replay left right inputs steps)) e p))

pub shrink_answered : (g : Call) (x : Answer) (left right inputs : List ℕ) (steps : ℕ) (a b : Fsmd) (ins : Inputs)
    → g.asked ≡ Some (Shrink left right inputs steps) → SpellPair g a b → IsKnown g 2 (SpellsInputs a ins) → IsCorrectAnswer g x
    → IsOfShrink steps a b ins x
shrink_answered g x left right inputs steps a b ins e k i p =
    inputs_answered a (IsOfShrink steps a b) g 2 ins x i
    (paired (λ m n. OpensInputs m (λ j. Ends (IsOfShrink steps m n j))) g a b x k (asked_so g x (Some (Shrink left right inputs steps)) e p))

-- ---- one machine or program, and a second file

pub fmt_answered : (g : Call) (x : Answer) (machine : List ℕ) (parts : Source) → g.asked ≡ Some (Fmt machine) → IsKnown g 0 (SpellsParts parts)
    → IsCorrectAnswer g x → x ≡ Text (canonical parts)
fmt_answered g x machine parts e k p =
    end_of (λ y. y ≡ Text (canonical parts)) 1 g x
    (opened Source RefusesMachine SpellsParts parts_open (λ s. Ends (λ y. y ≡ Text (canonical s))) g 0 parts x k (asked_so g x (Some (Fmt machine)) e p))

pub cuts_answered : (g : Call) (x : Answer) (machine : List ℕ) (m : Fsmd) → g.asked ≡ Some (Cuts machine) → IsKnown g 0 (SpellsMachine m) → IsCorrectAnswer g x
    → x ≡ Text (paths_text m)
cuts_answered g x machine m e k p =
    end_of (λ y. y ≡ Text (paths_text m)) 1 g x
    (opened Fsmd RefusesMachine SpellsMachine machine_opens (λ n. Ends (λ y. y ≡ Text (paths_text n))) g 0 m x k (asked_so g x (Some (Cuts machine)) e p))

pub compile_answered : (g : Call) (x : Answer) (file : List ℕ) (program : Program) → g.asked ≡ Some (Compile file) → IsKnown g 0 (SpellsProgram program)
    → IsCorrectAnswer g x → IsOfProgram program x
compile_answered g x file program e k p =
    end_of (IsOfProgram program) 1 g x
    (opened Program RefusesProgram SpellsProgram program_opens (λ q. Ends (IsOfProgram q)) g 0 program x k (asked_so g x (Some (Compile file)) e p))

pub schedule_answered : (g : Call) (x : Answer) (machine counts : List ℕ) (parts : Source) (units : Units) → g.asked ≡ Some (Schedule machine counts)
    → IsKnown g 0 (SpellsParts parts) → IsKnown g 1 (SpellUnits units) → IsCorrectAnswer g x
    → IsOfSchedule parts units x
schedule_answered g x machine counts parts units e k u p =
    end_of (IsOfSchedule parts units) 2 g x
    (opened Units RefusesUnits SpellUnits units_open (λ c. Ends (IsOfSchedule parts c)) g 1 units x u
    (opened Source RefusesMachine SpellsParts parts_open (λ s. OpensUnits (λ c. Ends (IsOfSchedule s c))) g 0 parts x k
    (asked_so g x (Some (Schedule machine counts)) e p)))

pub bind_answered : (g : Call) (x : Answer) (machine registers : List ℕ) (parts : Source) (b : Binding) → g.asked ≡ Some (Bind machine registers)
    → IsKnown g 0 (SpellsParts parts) → IsKnown g 1 (SpellsBinding (machine_of parts) b) → IsCorrectAnswer g x
    → IsOfBinding parts b x
bind_answered g x machine registers parts b e k u p =
    let m = machine_of parts in
    end_of (IsOfBinding parts b) 2 g x
    (opened Binding (RefusesBinding m) (SpellsBinding m) (binding_opens m) (λ c. Ends (IsOfBinding parts c)) g 1 b x u
    (opened Source RefusesMachine SpellsParts parts_open (λ s. OpensBinding (machine_of s) (λ c. Ends (IsOfBinding s c))) g 0 parts x k
    (asked_so g x (Some (Bind machine registers)) e p)))

-- ---- certificates that hold

-- the nodes of a certificate that holds are judged to pass
pub certificate_passes : (w : ReadInOneWay) → (g : Call) (x : Answer) (a b : Fsmd) (nodes : List (Node Fact)) → is_verify g.asked ≡ true → SpellPair g a b
    → IsKnown g 2 (SpellsCertificate a b nodes) → IsCertificate (machines a b) nodes
    → IsCorrectAnswer g x → x ≡ Text (codes "yes\n")
certificate_passes w g x a b nodes e k n holds p = let j = certificate_judged w g x a b nodes e k n p in j.is ∙ ap (answer_to a b) holds.hold
