-- The first refusal of a call is the one answer that is correct, and known files that are refused have it.
use Rattle.std.proofs.Common.{◌≡◌, ℕ, suc, ◌+◌, ◌*◌, ◌<◌, List, [], ◌∷◌, length, Option, Some, None, true, false, refl, sym, ◌∙◌, ap, subst, arith}
use Rattle.std.specs.Prelude.{is_some}
use Rattle.fsmd_words.specs.AskedWords.{Asked, Check, Verify, Run, Replay, Fmt, Cuts, Compile, Schedule, Bind, Shrink, Chain}
use Rattle.fs_model.specs.Machines.{Fsmd}
use Rattle.fs_model.specs.Source.{Source}
use Rattle.fs_rules.specs.MachineOfParts.{machine_of}
use Rattle.fs_ast.specs.StoredBranches.{state_name_of}
use Rattle.fs_pair.specs.Interfaces.{interface_fault}
use Rattle.hls_unit_counts.specs.declared.units.Unit.{Unit as Kind}
use Rattle.hls_unit_counts.specs.Counts.{Units}
use Rattle.hls_block_filling.specs.Over.{over_in}
use Rattle.fsmd_replies.specs.declared.answer.Operand.{Operand}
use Rattle.fsmd_replies.specs.declared.answer.Status.{Status}
use Rattle.fsmd_replies.specs.declared.answer.Status.TheVariants as statuses
use Rattle.fsmd_replies.specs.declared.answer.Answer.{Answer}
use Rattle.fsmd_replies.specs.declared.answer.Answer.TheVariants.{Equivalent, Link, Over}
use Rattle.fsmd_replies.specs.Statuses.{status_of, certificate_in}
use Rattle.fsmd_replies.specs.ChainTexts.{link_lines}
use Rattle.fsmd_replies.specs.AskedFiles.{operand, cert_of, is_verify}
use Rattle.fsmd_replies.specs.Replies.{reply, unstored_reply}
use Rattle.fsmd_tool.specs.MachineFiles.{SpellsParts, SpellsMachine}
use Rattle.fsmd_tool.specs.Readings.{FileContent, Readable, Unreadable, OfBytes, Reading}
use Rattle.fsmd_tool.specs.Refusals.{RefusesMachine, RefusesPair, RefusesCertificate}
use Rattle.fsmd_tool.specs.InputFiles.{HasInputFault, RefusesInputs}
use Rattle.fsmd_tool.specs.ProgramFiles.{RefusesProgram}
use Rattle.fsmd_tool.specs.ScheduleFiles.{HaveUnitFault, RefusesUnits, SpellUnits, IsOver}
use Rattle.fsmd_tool.specs.BindingFiles.{HasBindingFault, RefusesBinding}
use Rattle.fsmd_tool.specs.ComparisonAnswers.{IsOfPair}
use Rattle.fsmd_tool.specs.Verdicts.{IsJudged}
use Rattle.fsmd_tool.specs.Replays.{IsOfReplay}
use Rattle.fsmd_tool.specs.Shrinks.{IsOfShrink}
use Rattle.fsmd_tool.specs.Links.{AtLink}
use Rattle.fsmd_tool.specs.Follows.{Ends, Refused, Spelled, OpensInputs, OpensCertificate, Other, SameInterface, OpensPair, FollowsFrom, Follows}
use Rattle.fsmd_tool.specs.Calls.{Call, known_at_start, FailedToRead, MayRead}
use Rattle.fsmd_tool.specs.SinkReplies.{Put, IsPut, Whole, Cut}
use Rattle.fsmd_tool.specs.CertificateStores.{FileChange, file_change, IsUnchangedStore, FileToStore, file_to_store_of, to_store}
use Rattle.fsmd_tool.specs.Correct.{IsCorrectAnswer, IsDone, Kept, Stored, Unstored, IsDoneFor, Outcome, Answers, Starves}
use Rattle.fsmd_tool.proofs.Statuses.{HasStatus, is_refusal, machine_refuses, program_refuses, keys_refuse, certificate_refuses, machine_fault, program_fault}
use Rattle.fsmd_tool.proofs.Statuses.{keys_fault, certificate_fault}
use Rattle.fsmd_tool_laws.specs.Settled.{IsSettled, IsKnown, SpellPair, read_of, read_from, AreSettledUpToRefused}
use Rattle.fsmd_tool_laws.specs.OneAnswer.{IsBeyond, Found, NoneFound, AreOne, Equal, GoBeyond, SaySame, One, OfPair}
use Rattle.fsmd_tool_laws.specs.FirstRefusals.{opens_machine, opens_pair, runs_pair, IsKnownToBeRefused, IsFirstRefusal, HoldUpToLink, refusal_at}
use Rattle.fsmd_tool_laws.specs.FirstRefusals.{HasFirstRefusal, EndsByRefusal, WithLine, WithoutMemory}
use Rattle.fsmd_tool_laws.proofs.Contents.{some_none}
use Rattle.fsmd_tool_laws.proofs.Certificates.{ReadInOneWay}
use Rattle.fsmd_tool_laws.proofs.Following.{Rule, follows_one, OpensLinkWith}
use Rattle.fsmd_tool_laws.proofs.Known.{settled_read, known_settled, known_meets}
use Rattle.fsmd_tool_laws.proofs.Correct.{below, first_below, below_sum}
use Rattle.fsmd_tool_laws.proofs.Settling.{read_so, sooner, few_read, only_first, only_two, only_three}
use Rattle.fsmd_tool_laws.proofs.Stopped.{files_in, one_settled, both_settled, chain_settled, chain_follows}

-- ---- the first refusal is the one answer that is correct

-- what may be answered beyond a search that is left open is no refusal
beyond : (a b : Fsmd) (x : Answer) → IsBeyond a b x → status_of x ≡ statuses.BadInput → ⊥
beyond a b x (Found nodes p keeps e) s = let h : statuses.Fine ≡ statuses.BadInput = sym (ap status_of e) ∙ s in cc
beyond a b x (NoneFound l) s = let h : statuses.Undecided ≡ statuses.BadInput = sym (ap status_of l.is) ∙ s in cc

one_of : (a b : Fsmd) (x y : Answer) → status_of y ≡ statuses.BadInput → AreOne a b x y → x ≡ y
one_of a b x y s (Equal e) = e
one_of a b x y s (GoBeyond l p q) = absurd (beyond a b y q s)

same_of : (o : Option Asked) (r : Reading) (x y : Answer) → status_of y ≡ statuses.BadInput → SaySame o r x y → x ≡ y
same_of o r x y s (One e) = e
same_of o r x y s (OfPair a b c p) = one_of a b x y s p

only_refusal : (w : ReadInOneWay) → (g : Call) (x y : Answer) → IsFirstRefusal g y → IsCorrectAnswer g x → x ≡ y
only_refusal w g x y k p =
    let agree = read_so g 0 p.reading k.count p.may_be_read (λ n b. k.settled n (below_sum n k.count b)) in
    same_of g.asked (read_from g 0 k.count) x y k.status
    (follows_one w g.asked 0 p.reading (read_from g 0 k.count) x y agree p.follows k.follows).1

-- ---- how the call ends

not_certified : (y : Answer) → status_of y ≡ statuses.BadInput → certificate_in y ≡ None
not_certified (Equivalent nodes cert) s = absurd (let h : statuses.Fine ≡ statuses.BadInput = s in cc)
not_certified y s = refl

not_stored : (name : Option (List ℕ)) → file_to_store_of name None ≡ None
not_stored None = refl
not_stored (Some name) = refl

done_unstored : (e : Option FileToStore) (line : List ℕ) (meant : Status) (s : FileChange) (p : Put) → e ≡ None → IsDone e line meant s p
    → IsUnchangedStore s × IsPut line meant p
done_unstored e line meant s p none (Kept n k put) = (k, put)
done_unstored e line meant s p none (Stored x is k put) = absurd (some_none x e is none)
done_unstored e line meant s p none (Unstored x is k put) = absurd (some_none x e is none)

refusal_done : (y : Answer) (g : Call) (p : Put) → status_of y ≡ statuses.BadInput → IsDoneFor g.asked y (file_change g.before g.now) p → EndsByRefusal y g p
refusal_done y g p s d =
    let none : file_to_store_of (cert_of g.asked) (certificate_in y) ≡ None =
    ap (file_to_store_of (cert_of g.asked)) (not_certified y s) ∙ not_stored (cert_of g.asked) in
    let done = done_unstored (file_to_store_of (cert_of g.asked) (certificate_in y)) (reply y g.asked) (status_of y) (file_change g.before g.now) p none d in
    WithLine done.0 (subst (λ t. IsPut (reply y g.asked) t p) s done.1)

pub refusal_ends : (w : ReadInOneWay) → (g : Call) (p : Put) (y : Answer) → IsFirstRefusal g y → Outcome g p → EndsByRefusal y g p
refusal_ends w g p y k (Answers a) =
    let e : a.answer ≡ y = only_refusal w g a.answer y k a.correct in
    refusal_done y g p k.status (subst (λ x. IsDoneFor g.asked x (file_change g.before g.now) p) e a.done)
refusal_ends w g p y k (Starves m) = WithoutMemory m

-- ---- where a call ends as a refusal does

put_status : (line : List ℕ) (meant : Status) (p : Put) → p.status ≡ statuses.BadInput → IsPut line meant p → meant ≡ statuses.BadInput
put_status line meant p s (Whole w) = sym w.status ∙ s
put_status line meant p s (Cut c) = absurd (let h : statuses.Fault ≡ statuses.BadInput = sym c.status ∙ s in cc)

done_status : (e : Option FileToStore) (line : List ℕ) (meant : Status) (s : FileChange) (p : Put) → p.status ≡ statuses.BadInput
    → IsDone e line meant s p → meant ≡ statuses.BadInput
done_status e line meant s p b (Kept n k put) = put_status line meant p b put
done_status e line meant s p b (Stored x is k put) = put_status line meant p b put
done_status e line meant s p b (Unstored x is k put) =
    absurd (let h : statuses.Fault ≡ statuses.BadInput = put_status (unstored_reply x.name) statuses.Fault p b put in cc)

-- what was read of settled files is what is read of them
reading_is : (g : Call) (file : ℕ) (r : Reading) → MayRead g file r → ((k : ℕ) → k < file + length r → IsSettled g k) → r ≡ read_from g file (length r)
reading_is g file [] m h = refl
reading_is g file (c ∷ r) m h =
    let first : c ≡ read_of (known_at_start g (operand file)) =
    settled_read (known_at_start g (operand file)) (FailedToRead g (operand file)) c (h file (first_below file (length r))) m.0 in
    ap (λ d. d ∷ r) first
    ∙ ap (λ s. read_of (known_at_start g (operand file)) ∷ s) (reading_is g (file + 1) r m.1 (λ k b. h k (below k file (length r) b)))

refusal_first : (g : Call) (x : Answer) → AreSettledUpToRefused g → IsCorrectAnswer g x → status_of x ≡ statuses.BadInput → IsFirstRefusal g x
refusal_first g x u p s =
    let n : ℕ = length p.reading in
    let settled : (file : ℕ) → file < n → IsSettled g file = λ file b. u.settled file (sooner file n u.count b (few_read g x u p)) in
    record {
      count = n;
      settled = settled;
      follows = subst (λ r. Follows g.asked r x) (reading_is g 0 p.reading p.may_be_read (λ k b. settled k (below_sum k n b))) p.follows;
      status = s;
    }

pub only_refusals : (g : Call) (p : Put) → AreSettledUpToRefused g → Outcome g p → p.status ≡ statuses.BadInput → HasFirstRefusal g
only_refusals g p u (Answers a) s =
    let status = done_status (to_store g.asked a.answer) (reply a.answer g.asked) (status_of a.answer) (file_change g.before g.now) p s a.done in
    record { refusal = a.answer; is_first = refusal_first g a.answer u a.correct status }
only_refusals g p u (Starves m) s = absurd (let h : statuses.NoMemory ≡ statuses.BadInput = sym m.status ∙ s in cc)

-- ---- a file that is known to be refused

bad_input : (s : Status) → is_refusal s ≡ true → (s ≡ statuses.Fault → ⊥) → s ≡ statuses.BadInput
bad_input statuses.BadInput r h = refl
bad_input statuses.Fault r h = absurd (h refl)
bad_input s r h = absurd (let e : false ≡ true = r in cc)

module _ (R : Operand → FileContent → Answer → Type 0)
    (refuses : (file : Operand) (c : FileContent) (x : Answer) → R file c x → is_refusal (status_of x) ≡ true)
    (fault : (file : Operand) (c : FileContent) (x : Answer) → R file c x → HasStatus statuses.Fault x → c ≡ Unreadable) where
  -- its status is that of bad input
  refused_status : (g : Call) (file : ℕ) (x : Answer) → IsKnownToBeRefused g file R x → status_of x ≡ statuses.BadInput
  refused_status g file x k =
      bad_input (status_of x) (refuses (operand file) (Readable k.bytes) x k.meet)
      (λ s. let h : Readable k.bytes ≡ Unreadable = fault (operand file) (Readable k.bytes) x k.meet s in cc)

machine_status : (g : Call) (file : ℕ) (x : Answer) → IsKnownToBeRefused g file RefusesMachine x → status_of x ≡ statuses.BadInput
machine_status g file x k = refused_status RefusesMachine machine_refuses machine_fault g file x k

certificate_status : (a b : Fsmd) (g : Call) (file : ℕ) (x : Answer) → IsKnownToBeRefused g file (RefusesCertificate a b) x → status_of x ≡ statuses.BadInput
certificate_status a b g file x k = refused_status (RefusesCertificate a b) (certificate_refuses a b) (certificate_fault a b) g file x k

inputs_status : (m : Fsmd) (g : Call) (file : ℕ) (x : Answer) → IsKnownToBeRefused g file (RefusesInputs m) x → status_of x ≡ statuses.BadInput
inputs_status m g file x k = refused_status (RefusesInputs m) (keys_refuse (HasInputFault m)) (keys_fault (HasInputFault m)) g file x k

pair_status : (a b : Fsmd) (x : Answer) → RefusesPair a b x → status_of x ≡ statuses.BadInput
pair_status a b x l = ap status_of l.is

module _ (R : Operand → FileContent → Answer → Type 0) (g : Call) (file : ℕ) (x : Answer) (k : IsKnownToBeRefused g file R x) where
  refused_settled : IsSettled g file
  refused_settled = known_settled g file (λ bytes. R (operand file) (Readable bytes) x) k

  refused_meets : R (operand file) (read_of (known_at_start g (operand file))) x
  refused_meets = subst (λ h. R (operand file) (read_of h) x) (sym k.known) k.meet

-- ---- the first file, and the first two

not_true : false ≡ true → ⊥
not_true e = cc

first_follows : (o : Option Asked) (c : FileContent) (x : Answer) → opens_machine o ≡ true → RefusesMachine (operand 0) c x → FollowsFrom o 0 (c ∷ []) x
first_follows (Some (Check left right cert steps)) c x t k = Refused k refl
first_follows (Some (Verify left right cert)) c x t k = Refused k refl
first_follows (Some (Run machine ins steps)) c x t k = Refused k refl
first_follows (Some (Replay left right ins steps)) c x t k = Refused k refl
first_follows (Some (Fmt machine)) c x t k = Refused k refl
first_follows (Some (Cuts machine)) c x t k = Refused k refl
first_follows (Some (Schedule machine counts)) c x t k = Refused k refl
first_follows (Some (Bind machine registers)) c x t k = Refused k refl
first_follows (Some (Shrink left right ins steps)) c x t k = Refused k refl
first_follows (Some (Chain files)) c x t k = Refused k refl
first_follows o c x t k = absurd (not_true t)

pub first_is : (g : Call) (x : Answer) → opens_machine g.asked ≡ true → IsKnownToBeRefused g 0 RefusesMachine x → IsFirstRefusal g x
first_is g x t k = record {
  count = 1;
  settled = only_first g (refused_settled RefusesMachine g 0 x k);
  follows = first_follows g.asked (read_of (known_at_start g (operand 0))) x t (refused_meets RefusesMachine g 0 x k);
  status = machine_status g 0 x k;
}

-- what follows from two machines, whatever follows behind them
pair_follows : (o : Option Asked) (r : Reading) (x : Answer) → opens_pair o ≡ true → ((P : Fsmd → Fsmd → Rule) → OpensPair P 0 r x) → FollowsFrom o 0 r x
pair_follows (Some (Check left right cert steps)) r x t h = h (λ a b. Ends (IsOfPair steps (is_some cert) a b))
pair_follows (Some (Verify left right cert)) r x t h = h (λ a b. OpensCertificate a b (λ nodes. Ends (IsJudged a b nodes)))
pair_follows (Some (Replay left right ins steps)) r x t h = h (λ a b. OpensInputs a (λ i. Ends (IsOfReplay steps a b i)))
pair_follows (Some (Shrink left right ins steps)) r x t h = h (λ a b. OpensInputs a (λ i. Ends (IsOfShrink steps a b i)))
pair_follows o r x t h = absurd (not_true t)

pub second_is : (g : Call) (x : Answer) (a : Fsmd) → opens_pair g.asked ≡ true → IsKnown g 0 (SpellsMachine a) → IsKnownToBeRefused g 1 RefusesMachine x
    → IsFirstRefusal g x
second_is g x a t l k = record {
  count = 2;
  settled = only_two g (known_settled g 0 (SpellsMachine a) l) (refused_settled RefusesMachine g 1 x k);
  follows = pair_follows g.asked (read_from g 0 2) x t
      (λ P. Spelled a (known_meets g 0 (SpellsMachine a) l) (Refused (refused_meets RefusesMachine g 1 x k) refl));
  status = machine_status g 1 x k;
}

pub interface_is : (g : Call) (x : Answer) (a b : Fsmd) → opens_pair g.asked ≡ true → IsKnown g 0 (SpellsMachine a) → IsKnown g 1 (SpellsMachine b)
    → RefusesPair a b x → IsFirstRefusal g x
interface_is g x a b t l r k = record {
  count = 2;
  settled = only_two g (known_settled g 0 (SpellsMachine a) l) (known_settled g 1 (SpellsMachine b) r);
  follows = pair_follows g.asked (read_from g 0 2) x t
      (λ P. Spelled a (known_meets g 0 (SpellsMachine a) l) (Spelled b (known_meets g 1 (SpellsMachine b) r) (Other k refl)));
  status = pair_status a b x k;
}

-- ---- the file behind two machines

certificate_follows : (o : Option Asked) (c d e : FileContent) (x : Answer) (a b : Fsmd) → is_verify o ≡ true → OfBytes c (SpellsMachine a)
    → OfBytes d (SpellsMachine b) → interface_fault a b ≡ None → RefusesCertificate a b (operand 2) e x → FollowsFrom o 0 (c ∷ d ∷ e ∷ []) x
certificate_follows (Some (Verify left right cert)) c d e x a b t l r i k = Spelled a l (Spelled b r (SameInterface i (Refused k refl)))
certificate_follows o c d e x a b t l r i k = absurd (not_true t)

inputs_follow : (o : Option Asked) (c d e : FileContent) (x : Answer) (a b : Fsmd) → runs_pair o ≡ true → OfBytes c (SpellsMachine a)
    → OfBytes d (SpellsMachine b) → interface_fault a b ≡ None → RefusesInputs a (operand 2) e x → FollowsFrom o 0 (c ∷ d ∷ e ∷ []) x
inputs_follow (Some (Replay left right ins steps)) c d e x a b t l r i k = Spelled a l (Spelled b r (SameInterface i (Refused k refl)))
inputs_follow (Some (Shrink left right ins steps)) c d e x a b t l r i k = Spelled a l (Spelled b r (SameInterface i (Refused k refl)))
inputs_follow o c d e x a b t l r i k = absurd (not_true t)

pub certificate_is : (g : Call) (x : Answer) (a b : Fsmd) → is_verify g.asked ≡ true → SpellPair g a b → IsKnownToBeRefused g 2 (RefusesCertificate a b) x
    → IsFirstRefusal g x
certificate_is g x a b t p k = record {
  count = 3;
  settled = only_three g (known_settled g 0 (SpellsMachine a) p.left) (known_settled g 1 (SpellsMachine b) p.right)
      (refused_settled (RefusesCertificate a b) g 2 x k);
  follows = certificate_follows g.asked (read_of (known_at_start g (operand 0))) (read_of (known_at_start g (operand 1)))
      (read_of (known_at_start g (operand 2))) x a b t
      (known_meets g 0 (SpellsMachine a) p.left) (known_meets g 1 (SpellsMachine b) p.right) p.alike
      (refused_meets (RefusesCertificate a b) g 2 x k);
  status = certificate_status a b g 2 x k;
}

pub inputs_of_pair_are : (g : Call) (x : Answer) (a b : Fsmd) → runs_pair g.asked ≡ true → SpellPair g a b → IsKnownToBeRefused g 2 (RefusesInputs a) x
    → IsFirstRefusal g x
inputs_of_pair_are g x a b t p k = record {
  count = 3;
  settled = only_three g (known_settled g 0 (SpellsMachine a) p.left) (known_settled g 1 (SpellsMachine b) p.right)
      (refused_settled (RefusesInputs a) g 2 x k);
  follows = inputs_follow g.asked (read_of (known_at_start g (operand 0))) (read_of (known_at_start g (operand 1)))
      (read_of (known_at_start g (operand 2))) x a b t
      (known_meets g 0 (SpellsMachine a) p.left) (known_meets g 1 (SpellsMachine b) p.right) p.alike
      (refused_meets (RefusesInputs a) g 2 x k);
  status = inputs_status a g 2 x k;
}

-- ---- one machine or program, and a second file

-- what follows for a command follows for what is asked
asked_follows : (g : Call) (o : Option Asked) (r : Reading) (x : Answer) → g.asked ≡ o → Follows o r x → Follows g.asked r x
asked_follows g o r x e f = subst (λ q. Follows q r x) (sym e) f

pub inputs_are : (g : Call) (x : Answer) (machine ins : List ℕ) (steps : ℕ) (m : Fsmd) → g.asked ≡ Some (Run machine ins steps)
    → IsKnown g 0 (SpellsMachine m) → IsKnownToBeRefused g 1 (RefusesInputs m) x → IsFirstRefusal g x
inputs_are g x machine ins steps m e l k = record {
  count = 2;
  settled = only_two g (known_settled g 0 (SpellsMachine m) l) (refused_settled (RefusesInputs m) g 1 x k);
  follows = asked_follows g (Some (Run machine ins steps)) (read_from g 0 2) x e
      (Spelled m (known_meets g 0 (SpellsMachine m) l) (Refused (refused_meets (RefusesInputs m) g 1 x k) refl));
  status = inputs_status m g 1 x k;
}

pub units_are : (g : Call) (x : Answer) (machine counts : List ℕ) (parts : Source) → g.asked ≡ Some (Schedule machine counts)
    → IsKnown g 0 (SpellsParts parts) → IsKnownToBeRefused g 1 RefusesUnits x → IsFirstRefusal g x
units_are g x machine counts parts e l k = record {
  count = 2;
  settled = only_two g (known_settled g 0 (SpellsParts parts) l) (refused_settled RefusesUnits g 1 x k);
  follows = asked_follows g (Some (Schedule machine counts)) (read_from g 0 2) x e
      (Spelled parts (known_meets g 0 (SpellsParts parts) l) (Refused (refused_meets RefusesUnits g 1 x k) refl));
  status = refused_status RefusesUnits (keys_refuse HaveUnitFault) (keys_fault HaveUnitFault) g 1 x k;
}

pub too_few_are : (g : Call) (machine counts : List ℕ) (parts : Source) (units : Units) (state : ℕ) (kind : Kind)
    → g.asked ≡ Some (Schedule machine counts) → IsKnown g 0 (SpellsParts parts) → IsKnown g 1 (SpellUnits units)
    → over_in units (machine_of parts) ≡ Some (state, kind)
    → IsFirstRefusal g (Over (operand 1) (state_name_of (machine_of parts) state) kind)
too_few_are g machine counts parts units state kind e l u over = record {
  count = 2;
  settled = only_two g (known_settled g 0 (SpellsParts parts) l) (known_settled g 1 (SpellUnits units) u);
  follows = asked_follows g (Some (Schedule machine counts)) (read_from g 0 2) (Over (operand 1) (state_name_of (machine_of parts) state) kind) e
      (Spelled parts (known_meets g 0 (SpellsParts parts) l) (Spelled units (known_meets g 1 (SpellUnits units) u) (IsOver state kind over refl)));
  status = refl;
}

pub binding_is : (g : Call) (x : Answer) (machine registers : List ℕ) (parts : Source) → g.asked ≡ Some (Bind machine registers)
    → IsKnown g 0 (SpellsParts parts) → IsKnownToBeRefused g 1 (RefusesBinding (machine_of parts)) x → IsFirstRefusal g x
binding_is g x machine registers parts e l k =
    let m : Fsmd = machine_of parts in
    record {
      count = 2;
      settled = only_two g (known_settled g 0 (SpellsParts parts) l) (refused_settled (RefusesBinding m) g 1 x k);
      follows = asked_follows g (Some (Bind machine registers)) (read_from g 0 2) x e
          (Spelled parts (known_meets g 0 (SpellsParts parts) l) (Refused (refused_meets (RefusesBinding m) g 1 x k) refl));
      status = refused_status (RefusesBinding m) (keys_refuse (HasBindingFault m)) (keys_fault (HasBindingFault m)) g 1 x k;
    }

pub program_is : (g : Call) (x : Answer) (file : List ℕ) → g.asked ≡ Some (Compile file) → IsKnownToBeRefused g 0 RefusesProgram x → IsFirstRefusal g x
program_is g x file e k = record {
  count = 1;
  settled = only_first g (refused_settled RefusesProgram g 0 x k);
  follows = asked_follows g (Some (Compile file)) (read_from g 0 1) x e (Refused (refused_meets RefusesProgram g 0 x k) refl);
  status = refused_status RefusesProgram program_refuses program_fault g 0 x k;
}

-- ---- the next link of a chain

told_at : (o : Option Asked) (link : ℕ) (P : Answer → Type 0) (x : Answer) → P x → status_of x ≡ statuses.BadInput → AtLink o link P (refusal_at o link x)
told_at o link P x m s = record { stop = x; meets = m; is = ap (λ t. Link t (link_lines o link x)) (sym s) }

-- what follows from so many files of the next link
link_is : (g : Call) (x : Answer) (links count : ℕ) (last : Fsmd) (h : HoldUpToLink g links last)
    → ((i : ℕ) → i < count → IsSettled g (2 * links + 1 + i))
    → ((P : Fsmd → Rule) → OpensLinkWith (Some (Chain h.words)) (links + 1) last P (2 * links + 1) (read_from g (2 * links + 1) count)
    (refusal_at (Some (Chain h.words)) (links + 1) x))
    → IsFirstRefusal g (refusal_at g.asked (links + 1) x)
link_is g x links count last h s stops = record {
  count = suc (files_in count links);
  settled = chain_settled g links count h.first last h.begins h.hold s;
  follows = subst (λ q. Follows q (read_from g 0 (suc (files_in count links))) (refusal_at q (links + 1) x)) (sym h.asked)
      (chain_follows h.words g links count h.first last (refusal_at (Some (Chain h.words)) (links + 1) x) h.more h.begins h.hold stops);
  status = refl;
}

pub link_machine_is : (g : Call) (x : Answer) (links : ℕ) (last : Fsmd) → HoldUpToLink g links last
    → IsKnownToBeRefused g (2 * links + 1) RefusesMachine x → IsFirstRefusal g (refusal_at g.asked (links + 1) x)
link_machine_is g x links last h k =
    let file : ℕ = 2 * links + 1 in
    let o : Option Asked = Some (Chain h.words) in
    let meets = refused_meets RefusesMachine g file x k in
    link_is g x links 1 last h (one_settled g file (refused_settled RefusesMachine g file x k))
    (λ P. Refused (told_at o (links + 1) (RefusesMachine (operand file) (read_of (known_at_start g (operand file)))) x meets (machine_status g file x k)) refl)

pub link_interface_is : (g : Call) (x : Answer) (links : ℕ) (last next : Fsmd) → HoldUpToLink g links last
    → IsKnown g (2 * links + 1) (SpellsMachine next) → RefusesPair last next x → IsFirstRefusal g (refusal_at g.asked (links + 1) x)
link_interface_is g x links last next h l k =
    let file : ℕ = 2 * links + 1 in
    let o : Option Asked = Some (Chain h.words) in
    link_is g x links 1 last h (one_settled g file (known_settled g file (SpellsMachine next) l))
    (λ P. Spelled next (known_meets g file (SpellsMachine next) l) (Other (told_at o (links + 1) (RefusesPair last next) x k (pair_status last next x k)) refl))

next_file : (n : ℕ) → 2 * n + 2 ≡ 2 * n + 1 + 1
next_file n = omega arith

pub link_certificate_is : (g : Call) (x : Answer) (links : ℕ) (last next : Fsmd) → HoldUpToLink g links last
    → IsKnown g (2 * links + 1) (SpellsMachine next) → interface_fault last next ≡ None
    → IsKnownToBeRefused g (2 * links + 2) (RefusesCertificate last next) x → IsFirstRefusal g (refusal_at g.asked (links + 1) x)
link_certificate_is g x links last next h l i refused =
    let file : ℕ = 2 * links + 1 in
    let o : Option Asked = Some (Chain h.words) in
    let R = RefusesCertificate last next in
    let k : IsKnownToBeRefused g (file + 1) R x = subst (λ n. IsKnownToBeRefused g n R x) (next_file links) refused in
    let meets = refused_meets R g (file + 1) x k in
    let status = certificate_status last next g (file + 1) x k in
    link_is g x links 2 last h (both_settled g file (known_settled g file (SpellsMachine next) l) (refused_settled R g (file + 1) x k))
    (λ P. Spelled next (known_meets g file (SpellsMachine next) l)
    (SameInterface i (Refused (told_at o (links + 1) (R (operand (file + 1)) (read_of (known_at_start g (operand (file + 1))))) x meets status) refl)))
