-- Which statuses an answer has.
use Rattle.std.proofs.Common.{◌≡◌, ◌∙◌, ℕ, Bool, true, false, List, Option, refl, sym, ap}
use Rattle.std.proofs.lemmas.Bool.{false≢true}
use Rattle.fsmd_words.specs.AskedWords.{Asked}
use Rattle.fs_model.specs.Machines.{Fsmd}
use Rattle.fs_model.specs.Runs.{Inputs}
use Rattle.fs_model.specs.Source.{Source}
use Rattle.hls_unit_counts.specs.Counts.{Units}
use Rattle.cert_model.specs.Obligations.{Verdict, Yes, No, IsWide, IsLarge}
use Rattle.fsmd_replies.specs.declared.answer.Operand.{Operand}
use Rattle.fsmd_replies.specs.declared.answer.Status.{Status}
use Rattle.fsmd_replies.specs.declared.answer.Status.TheVariants as statuses
use Rattle.fsmd_replies.specs.declared.answer.KeyFault.{KeyFault}
use Rattle.fsmd_replies.specs.declared.answer.Answer.{Answer}
use Rattle.fsmd_replies.specs.declared.answer.Answer.TheVariants.{Usage, Text}
use Rattle.fsmd_replies.specs.Statuses.{status_of}
use Rattle.fsmd_answers.specs.Readings.{FileContent, Unreadable}
use Rattle.fsmd_answers.specs.Unread.{IsUnread, Failed, Long}
use Rattle.fsmd_answers.specs.JsonKeys.{RefusesKeys, UnreadKeys, ByJson, ByKey}
use Rattle.fsmd_answers.specs.Refusals.{RefusesMachine, Unread, ByText, ByRule, RefusesPair, RefusesCertificate, UnreadCertificate, ByCertificate}
use Rattle.hls_program_parts.specs.Programs.{Program}
use Rattle.fsmd_answers.specs.ProgramFiles.{RefusesProgram, UnreadProgram, ProgramByText, ProgramByRule, IsOfProgram}
use Rattle.fsmd_answers.specs.ScheduleFiles.{IsOfSchedule, IsOver, InRows}
use Rattle.fsmd_answers.specs.BindingAnswers.{Binding}
use Rattle.fsmd_answers.specs.BindingFiles.{IsOfBinding, IsBound, Loses}
use Rattle.fsmd_answers.specs.ComparisonAnswers.{IsOfPair, Same, Apart, Open}
use Rattle.fsmd_answers.specs.Verdicts.{answer_to}
use Rattle.fsmd_answers.specs.RunAnswers.{IsOfRun, Ended, Stopped}
use Rattle.fsmd_answers.specs.Replays.{IsOfReplay, LeftStopped, RightStopped, Agreed, Differed}
use Rattle.fsmd_answers.specs.Shrinks.{IsOfShrink, Smaller, Replayed}
use Rattle.fsmd_answers.specs.Links.{AtLink, IsOfChain}

abbrev pub HasStatus : Status → Answer → Type 0
HasStatus s x = status_of x ≡ s

-- an answer has one status
pub moved : (s t : Status) (x y : Answer) → x ≡ y → status_of y ≡ t → HasStatus s x → t ≡ s
moved s t x y e is h = sym is ∙ ap status_of (sym e) ∙ h

-- the statuses of refused files
abbrev pub is_refusal : Status → Bool
is_refusal statuses.BadInput = true
is_refusal statuses.Fault = true
is_refusal _ = false

-- a status that is none of these is none of a refused file
pub not_refused : (s : Status) (x : Answer) → is_refusal s ≡ false → is_refusal (status_of x) ≡ true → HasStatus s x → ⊥
not_refused s x away refused e = false≢true (sym away ∙ ap is_refusal (sym e) ∙ refused)

-- ---- refused files

pub unread_refuses : (limit : ℕ) (file : Operand) (c : FileContent) (x : Answer) → IsUnread limit file c x → is_refusal (status_of x) ≡ true
unread_refuses limit file c x (Failed u e) = ap (λ y. is_refusal (status_of y)) e
unread_refuses limit file c x (Long u e) = ap (λ y. is_refusal (status_of y)) e

pub machine_refuses : (file : Operand) (c : FileContent) (x : Answer) → RefusesMachine file c x → is_refusal (status_of x) ≡ true
machine_refuses file c x (Unread u) = unread_refuses _ file c x u
machine_refuses file c x (ByText f t e) = ap (λ y. is_refusal (status_of y)) e
machine_refuses file c x (ByRule f t e) = ap (λ y. is_refusal (status_of y)) e

pub pair_refuses : (a b : Fsmd) (x : Answer) → RefusesPair a b x → is_refusal (status_of x) ≡ true
pair_refuses a b x l = ap (λ y. is_refusal (status_of y)) l.is

pub program_refuses : (file : Operand) (c : FileContent) (x : Answer) → RefusesProgram file c x → is_refusal (status_of x) ≡ true
program_refuses file c x (UnreadProgram u) = unread_refuses _ file c x u
program_refuses file c x (ProgramByText f t e) = ap (λ y. is_refusal (status_of y)) e
program_refuses file c x (ProgramByRule f t e) = ap (λ y. is_refusal (status_of y)) e

pub keys_refuse : (F : KeyFault → (key bytes : List ℕ) → Type 0) (file : Operand) (c : FileContent) (x : Answer) → RefusesKeys F file c x
    → is_refusal (status_of x) ≡ true
keys_refuse F file c x (UnreadKeys u) = unread_refuses _ file c x u
keys_refuse F file c x (ByJson t e) = ap (λ y. is_refusal (status_of y)) e
keys_refuse F file c x (ByKey f k t e) = ap (λ y. is_refusal (status_of y)) e

pub certificate_refuses : (a b : Fsmd) (file : Operand) (c : FileContent) (x : Answer) → RefusesCertificate a b file c x → is_refusal (status_of x) ≡ true
certificate_refuses a b file c x (UnreadCertificate u) = unread_refuses _ file c x u
certificate_refuses a b file c x (ByCertificate f t e) = ap (λ y. is_refusal (status_of y)) e

-- where the status is of a fault, the file could not be read

unread_fault : (limit : ℕ) (file : Operand) (c : FileContent) (x : Answer) → IsUnread limit file c x → HasStatus statuses.Fault x → c ≡ Unreadable
unread_fault limit file c x (Failed u e) s = u
unread_fault limit file c x (Long u e) s = absurd (let h : statuses.BadInput ≡ statuses.Fault = moved statuses.Fault statuses.BadInput x _ e refl s in cc)

pub machine_fault : (file : Operand) (c : FileContent) (x : Answer) → RefusesMachine file c x → HasStatus statuses.Fault x → c ≡ Unreadable
machine_fault file c x (Unread u) s = unread_fault _ file c x u s
machine_fault file c x (ByText f t e) s = absurd (let h : statuses.BadInput ≡ statuses.Fault = moved statuses.Fault statuses.BadInput x _ e refl s in cc)
machine_fault file c x (ByRule f t e) s = absurd (let h : statuses.BadInput ≡ statuses.Fault = moved statuses.Fault statuses.BadInput x _ e refl s in cc)

pub program_fault : (file : Operand) (c : FileContent) (x : Answer) → RefusesProgram file c x → HasStatus statuses.Fault x → c ≡ Unreadable
program_fault file c x (UnreadProgram u) s = unread_fault _ file c x u s
program_fault file c x (ProgramByText f t e) s = absurd (let h : statuses.BadInput ≡ statuses.Fault = moved statuses.Fault statuses.BadInput x _ e refl s in cc)
program_fault file c x (ProgramByRule f t e) s = absurd (let h : statuses.BadInput ≡ statuses.Fault = moved statuses.Fault statuses.BadInput x _ e refl s in cc)

pub keys_fault : (F : KeyFault → (key bytes : List ℕ) → Type 0) (file : Operand) (c : FileContent) (x : Answer) → RefusesKeys F file c x
    → HasStatus statuses.Fault x → c ≡ Unreadable
keys_fault F file c x (UnreadKeys u) s = unread_fault _ file c x u s
keys_fault F file c x (ByJson t e) s = absurd (let h : statuses.BadInput ≡ statuses.Fault = moved statuses.Fault statuses.BadInput x _ e refl s in cc)
keys_fault F file c x (ByKey f k t e) s = absurd (let h : statuses.BadInput ≡ statuses.Fault = moved statuses.Fault statuses.BadInput x _ e refl s in cc)

pub certificate_fault : (a b : Fsmd) (file : Operand) (c : FileContent) (x : Answer) → RefusesCertificate a b file c x → HasStatus statuses.Fault x
    → c ≡ Unreadable
certificate_fault a b file c x (UnreadCertificate u) s = unread_fault _ file c x u s
certificate_fault a b file c x (ByCertificate f t e) s =
    absurd (let h : statuses.BadInput ≡ statuses.Fault = moved statuses.Fault statuses.BadInput x _ e refl s in cc)

pub pair_fault : (a b : Fsmd) (x : Answer) → RefusesPair a b x → HasStatus statuses.Fault x → ⊥
pair_fault a b x l s = let h : statuses.BadInput ≡ statuses.Fault = moved statuses.Fault statuses.BadInput x _ l.is refl s in cc

-- ---- answers that are told as those of a link

pub link_status : (s : Status) (o : Option Asked) (k : ℕ) (P : Answer → Type 0) (x : Answer) (l : AtLink o k P x) → HasStatus s x → HasStatus s l.stop
link_status s o k P x l h = ap status_of (sym l.is) ∙ h

pub link_refuses : (o : Option Asked) (k : ℕ) (P : Answer → Type 0) (x : Answer) → ((y : Answer) → P y → is_refusal (status_of y) ≡ true) → AtLink o k P x
    → is_refusal (status_of x) ≡ true
link_refuses o k P x f l = ap (λ y. is_refusal (status_of y)) l.is ∙ f l.stop l.meets

-- ---- answers that are no fault

pub of_pair_fault : (limit : ℕ) (keeps : Bool) (a b : Fsmd) (x : Answer) → IsOfPair limit keeps a b x → HasStatus statuses.Fault x → ⊥
of_pair_fault limit keeps a b x (Same ns same e) s = let h : statuses.Fine ≡ statuses.Fault = moved statuses.Fault statuses.Fine x _ e refl s in cc
of_pair_fault limit keeps a b x (Apart l) s = let h : statuses.Differ ≡ statuses.Fault = moved statuses.Fault statuses.Differ x _ l.is refl s in cc
of_pair_fault limit keeps a b x (Open l) s = let h : statuses.Undecided ≡ statuses.Fault = moved statuses.Fault statuses.Undecided x _ l.is refl s in cc

pub run_fault : (limit : ℕ) (m : Fsmd) (ins : Inputs) (x : Answer) → IsOfRun limit m ins x → HasStatus statuses.Fault x → ⊥
run_fault limit m ins x (Ended o n e l) s = let h : statuses.Fine ≡ statuses.Fault = moved statuses.Fault statuses.Fine x _ l.is refl s in cc
run_fault limit m ins x (Stopped t e l) s = let h : statuses.Undecided ≡ statuses.Fault = moved statuses.Fault statuses.Undecided x _ l.is refl s in cc

pub replay_fault : (limit : ℕ) (a b : Fsmd) (ins : Inputs) (x : Answer) → IsOfReplay limit a b ins x → HasStatus statuses.Fault x → ⊥
replay_fault limit a b ins x (LeftStopped t e l) s = let h : statuses.Undecided ≡ statuses.Fault = moved statuses.Fault statuses.Undecided x _ l.is refl s in cc
replay_fault limit a b ins x (RightStopped o n f t e l) s = let h : statuses.Undecided ≡ statuses.Fault =
    moved statuses.Fault statuses.Undecided x _ l.is refl s in cc
replay_fault limit a b ins x (Agreed p q e t l) s = let h : statuses.Fine ≡ statuses.Fault = moved statuses.Fault statuses.Fine x _ l.is refl s in cc
replay_fault limit a b ins x (Differed p q e t l) s = let h : statuses.Differ ≡ statuses.Fault = moved statuses.Fault statuses.Differ x _ l.is refl s in cc

pub usage_fault : (x : Answer) → x ≡ Usage → HasStatus statuses.Fault x → ⊥
usage_fault x e s = let h : statuses.Usage ≡ statuses.Fault = moved statuses.Fault statuses.Usage x Usage e refl s in cc

pub text_fault : (lines : List ℕ) (x : Answer) → x ≡ Text lines → HasStatus statuses.Fault x → ⊥
text_fault lines x e s = let h : statuses.Fine ≡ statuses.Fault = moved statuses.Fault statuses.Fine x (Text lines) e refl s in cc

pub shrink_fault : (limit : ℕ) (a b : Fsmd) (ins : Inputs) (x : Answer) → IsOfShrink limit a b ins x → HasStatus statuses.Fault x → ⊥
shrink_fault limit a b ins x (Smaller d end e l) s = let h : statuses.Differ ≡ statuses.Fault = moved statuses.Fault statuses.Differ x _ l.is refl s in cc
shrink_fault limit a b ins x (Replayed n r) s = replay_fault limit a b ins x r s

pub chain_fault : (a b : Fsmd) (links : ℕ) (x : Answer) → IsOfChain a b links x → HasStatus statuses.Fault x → ⊥
chain_fault a b links x c s = let h : statuses.Fine ≡ statuses.Fault = moved statuses.Fault statuses.Fine x _ c.is refl s in cc

pub compile_fault : (p : Program) (x : Answer) → IsOfProgram p x → HasStatus statuses.Fault x → ⊥
compile_fault p x l s = let h : statuses.Fine ≡ statuses.Fault = moved statuses.Fault statuses.Fine x _ l.is refl s in cc

pub schedule_fault : (p : Source) (units : Units) (x : Answer) → IsOfSchedule p units x → HasStatus statuses.Fault x → ⊥
schedule_fault p units x (IsOver q k o e) s = let h : statuses.BadInput ≡ statuses.Fault = moved statuses.Fault statuses.BadInput x _ e refl s in cc
schedule_fault p units x (InRows l) s = let h : statuses.Fine ≡ statuses.Fault = moved statuses.Fault statuses.Fine x _ l.is refl s in cc

pub binding_fault : (p : Source) (b : Binding) (x : Answer) → IsOfBinding p b x → HasStatus statuses.Fault x → ⊥
binding_fault p b x (IsBound l) s = let h : statuses.Fine ≡ statuses.Fault = moved statuses.Fault statuses.Fine x _ l.is refl s in cc
binding_fault p b x (Loses l) s = let h : statuses.Differ ≡ statuses.Fault = moved statuses.Fault statuses.Differ x _ l.is refl s in cc

verdict_fault : (a b : Fsmd) (v : Verdict) → status_of (answer_to a b v) ≡ statuses.Fault → ⊥
verdict_fault a b Yes s = cc
verdict_fault a b (No k r) s = cc
verdict_fault a b (IsWide k) s = cc
verdict_fault a b (IsLarge k) s = cc

pub judged_fault : (a b : Fsmd) (v : Verdict) (x : Answer) → x ≡ answer_to a b v → HasStatus statuses.Fault x → ⊥
judged_fault a b v x e s = verdict_fault a b v (ap status_of (sym e) ∙ s)

verdict_yes : (a b : Fsmd) (v : Verdict) → status_of (answer_to a b v) ≡ statuses.Fine → v ≡ Yes
verdict_yes a b Yes s = refl
verdict_yes a b (No k r) s = cc
verdict_yes a b (IsWide k) s = cc
verdict_yes a b (IsLarge k) s = cc

-- only the verdict yes is answered with yes
pub judged_yes : (a b : Fsmd) (v : Verdict) (x : Answer) → x ≡ answer_to a b v → HasStatus statuses.Fine x → v ≡ Yes
judged_yes a b v x e s = verdict_yes a b v (ap status_of (sym e) ∙ s)
