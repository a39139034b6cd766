-- No file is opened behind one that is refused: files that are settled up to there settle the answer.
use Rattle.std.proofs.Common.{◌≡◌, ℕ, zero, suc, ◌+◌, ◌<◌, ◌≤◌, List, [], ◌∷◌, length, Option, Some, None, false, refl, ◌∙◌, ap, subst, arith}
use Rattle.std.specs.Prelude.{is_some}
use Rattle.fsmd_words.specs.AskedWords.{Asked, Check, Verify, Run, Replay, Fmt, Cuts, Generate, Compile, Schedule, Bind, Shrink, Chain}
use Rattle.fs_model.specs.Machines.{Fsmd}
use Rattle.fs_model.specs.Source.{Source}
use Rattle.fs_rules.specs.MachineOfParts.{machine_of}
use Rattle.fs_pair.specs.Interfaces.{interface_fault}
use Rattle.fsmd_replies.specs.declared.answer.Operand.{Operand}
use Rattle.fsmd_replies.specs.declared.answer.Answer.{Answer}
use Rattle.fsmd_replies.specs.AskedFiles.{operand, files_of, compares}
use Rattle.fsmd_tool.specs.MachineFiles.{SpellsParts, SpellsMachine}
use Rattle.fsmd_tool.specs.Readings.{FileContent, OfBytes, Reading}
use Rattle.fsmd_tool.specs.Refusals.{RefusesMachine, RefusesPair}
use Rattle.fsmd_tool.specs.ComparisonAnswers.{IsOfPair}
use Rattle.fsmd_tool.specs.Verdicts.{IsJudged}
use Rattle.fsmd_tool.specs.RunAnswers.{IsOfRun}
use Rattle.fsmd_tool.specs.Replays.{IsOfReplay}
use Rattle.fsmd_tool.specs.Shrinks.{IsOfShrink}
use Rattle.fsmd_tool.specs.ScheduleFiles.{IsOfSchedule}
use Rattle.fsmd_tool.specs.BindingFiles.{IsOfBinding}
use Rattle.fsmd_tool.specs.Links.{AtLink, links_of, IsOfChain}
use Rattle.fsmd_tool.specs.Follows.{Ends, Refused, Spelled, Opens, OpensMachine, OpensInputs, OpensCertificate, OpensUnits, OpensBinding, ComparesPairs}
use Rattle.fsmd_tool.specs.Follows.{Other, SameInterface, OpensLinks, Follows}
use Rattle.fsmd_tool.specs.Calls.{Call, known_at_start, FailedToRead, MayRead}
use Rattle.fsmd_tool.specs.Correct.{IsCorrectAnswer}
use Rattle.fsmd_tool_laws.specs.Agreement.{Agree}
use Rattle.fsmd_tool_laws.specs.Settled.{IsSettled, AreSettled, IsKnown, read_of, read_from, IsRefusedAsMachine, AreSettledUpToRefused}
use Rattle.fsmd_tool_laws.specs.OneAnswer.{ArePair, SaySame}
use Rattle.fsmd_tool_laws.proofs.Contents.{some_none, one_spelled}
use Rattle.fsmd_tool_laws.proofs.Files.{machine_opens, parts_open}
use Rattle.fsmd_tool_laws.proofs.Certificates.{ReadInOneWay}
use Rattle.fsmd_tool_laws.proofs.Following.{Rule, follows_one, BehindPair}
use Rattle.fsmd_tool_laws.proofs.Named.{at_end, suc_le_suc, ends, opens, named_only}
use Rattle.fsmd_tool_laws.proofs.Known.{settled_read, known_settled, known_meets}
use Rattle.fsmd_tool_laws.proofs.Correct.{below, first_below, below_sum, correct_once, correct_one}

-- ---- the files that are opened are settled

-- what was read of so many settled files is what is read of them
pub read_so : (g : Call) (file : ℕ) (r : Reading) (count : ℕ) → MayRead g file r → ((k : ℕ) → k < file + count → IsSettled g k)
    → Agree r (read_from g file count)
read_so g file [] count m h = tt
read_so g file (c ∷ r) zero m h = tt
read_so g file (c ∷ r) (suc count) m h = (
  settled_read (known_at_start g (operand file)) (FailedToRead g (operand file)) c (h file (first_below file count)) m.0,
  read_so g (file + 1) r count m.1
      (λ k b. h k (below k file count b)),
)

pub sooner : (k n m : ℕ) → k < n → n ≤ m → k < m
sooner k n m a b = omega arith

-- no more files were opened than are settled up to the refused one
pub few_read : (g : Call) (x : Answer) (u : AreSettledUpToRefused g) (p : IsCorrectAnswer g x) → length p.reading ≤ u.count
few_read g x u p =
    u.none_behind p.reading x (read_so g 0 p.reading u.count p.may_be_read (λ k b. u.settled k (below_sum k u.count b))) p.follows

are_settled : (g : Call) (x y : Answer) → AreSettledUpToRefused g → (p : IsCorrectAnswer g x) (q : IsCorrectAnswer g y) → AreSettled g p.reading q.reading
are_settled g x y u p q = record { settled = λ file a b. u.settled file (sooner file (length p.reading) u.count a (few_read g x u p)) }

pub settled_once : (w : ReadInOneWay) → (g : Call) (x y : Answer) → AreSettledUpToRefused g → (p : IsCorrectAnswer g x) (q : IsCorrectAnswer g y)
    → SaySame g.asked q.reading x y
settled_once w g x y s p q = correct_once w g x y p q (are_settled g x y s p q)

pub settled_one : (w : ReadInOneWay) → (g : Call) (x y : Answer) → compares g.asked ≡ false → AreSettledUpToRefused g → IsCorrectAnswer g x
    → IsCorrectAnswer g y → x ≡ y
settled_one w g x y e s p q = correct_one w g x y e p q (are_settled g x y s p q)

-- ---- all files that are named, and those from which an answer follows

pub all_settled : (g : Call) → ((file : ℕ) → file < length (files_of g.asked) → IsSettled g file) → AreSettledUpToRefused g
all_settled g h = record { count = length (files_of g.asked); settled = h; none_behind = λ r x a f. named_only g.asked 0 r x f }

length_read : (g : Call) (file count : ℕ) → length (read_from g file count) ≡ count
length_read g file zero = refl
length_read g file (suc count) = ap suc (length_read g (file + 1) count)

no_more : (n m : ℕ) → n ≡ m → n ≤ m
no_more n m e = omega arith

pub answered_settled : (w : ReadInOneWay) → (g : Call) (count : ℕ) (y : Answer) → ((file : ℕ) → file < count → IsSettled g file)
    → Follows g.asked (read_from g 0 count) y → AreSettledUpToRefused g
answered_settled w g count y h p = record {
  count = count;
  settled = h;
  none_behind = λ r x a f.
      let same : r ≡ read_from g 0 count = (follows_one w g.asked 0 r (read_from g 0 count) x y a f p).0 in
      no_more (length r) count (ap length same ∙ length_read g 0 count);
}

-- ---- the first file is refused

few_one : (n : ℕ) → n ≤ 0 → n ≤ 1
few_one n h = omega arith

-- no file is opened behind one that spells nothing
opens_one : (T : Type 0) (R : Operand → FileContent → Answer → Type 0) (S : T → List ℕ → Type 0) (P : T → Rule) (file : ℕ) (r : Reading) (x : Answer)
    (c : FileContent)
    → ((v : T) → OfBytes c (S v) → ⊥) → Agree r (c ∷ []) → Opens T R S P file r x
    → length r ≤ 1
opens_one T R S P file [] x c none a f = absurd f
opens_one T R S P file (d ∷ r) x c none a (Refused p e) = suc_le_suc (length r) 0 (at_end r 0 e)
opens_one T R S P file (d ∷ r) x c none a (Spelled v l p) = absurd (none v (subst (λ k. OfBytes k (S v)) a.0 l))

-- where the first file is no machine
module _ (c : FileContent) (y : Answer) (refused : RefusesMachine (operand 0) c y) where
  machine_one : (P : Fsmd → Rule) (r : Reading) (x : Answer) → Agree r (c ∷ []) → OpensMachine P 0 r x → length r ≤ 1
  machine_one P r x a f = opens_one Fsmd RefusesMachine SpellsMachine P 0 r x c (λ m l. machine_opens.spelled_is_not_refused (operand 0) c m y l refused) a f

  parts_one : (P : Source → Rule) (r : Reading) (x : Answer) → Agree r (c ∷ []) → Opens Source RefusesMachine SpellsParts P 0 r x → length r ≤ 1
  parts_one P r x a f = opens_one Source RefusesMachine SpellsParts P 0 r x c (λ m l. parts_open.spelled_is_not_refused (operand 0) c m y l refused) a f

  first_stops : (o : Option Asked) (r : Reading) (x : Answer) → Agree r (c ∷ []) → Follows o r x → length r ≤ 1
  first_stops None r x a f = few_one (length r) (named_only None 0 r x f)
  first_stops (Some (Check left right cert steps)) r x a f =
      machine_one (λ l. OpensMachine (λ k. ComparesPairs l k (RefusesPair l k) (Ends (IsOfPair steps (is_some cert) l k)))) r x a f
  first_stops (Some (Verify left right cert)) r x a f =
      machine_one (λ l. OpensMachine (λ k. ComparesPairs l k (RefusesPair l k) (OpensCertificate l k (λ n. Ends (IsJudged l k n))))) r x a f
  first_stops (Some (Run machine ins steps)) r x a f = machine_one (λ m. OpensInputs m (λ i. Ends (IsOfRun steps m i))) r x a f
  first_stops (Some (Replay left right ins steps)) r x a f =
      machine_one (λ l. OpensMachine (λ k. ComparesPairs l k (RefusesPair l k) (OpensInputs l (λ i. Ends (IsOfReplay steps l k i))))) r x a f
  first_stops (Some (Fmt machine)) r x a f = named_only (Some (Fmt machine)) 0 r x f
  first_stops (Some (Cuts machine)) r x a f = named_only (Some (Cuts machine)) 0 r x f
  first_stops (Some (Generate loops)) r x a f = few_one (length r) (named_only (Some (Generate loops)) 0 r x f)
  first_stops (Some (Compile program)) r x a f = named_only (Some (Compile program)) 0 r x f
  first_stops (Some (Schedule machine counts)) r x a f = parts_one (λ parts. OpensUnits (λ units. Ends (IsOfSchedule parts units))) r x a f
  first_stops (Some (Bind machine binding)) r x a f = parts_one (λ parts. OpensBinding (machine_of parts) (λ b. Ends (IsOfBinding parts b))) r x a f
  first_stops (Some (Shrink left right ins steps)) r x a f =
      machine_one (λ l. OpensMachine (λ k. ComparesPairs l k (RefusesPair l k) (OpensInputs l (λ i. Ends (IsOfShrink steps l k i))))) r x a f
  first_stops (Some (Chain files)) r x a f = machine_one (λ m. OpensLinks (Some (Chain files)) m m 0 (links_of files)) r x a f

pub only_first : (g : Call) → IsSettled g 0 → (file : ℕ) → file < 1 → IsSettled g file
only_first g s zero b = s
only_first g s (suc file) b = absurd (let h : suc file < 1 = b in omega arith)

pub first_refused : (g : Call) → IsRefusedAsMachine g 0 → AreSettledUpToRefused g
first_refused g k = record {
  count = 1;
  settled = only_first g k.settled;
  none_behind = λ r x a f. first_stops (read_of (known_at_start g (operand 0))) k.answer k.refuses g.asked r x a f;
}

-- ---- the second file is refused, or the machines have other inputs or outputs

few_two : (n : ℕ) → n ≤ 1 → n ≤ 2
few_two n h = omega arith

-- two machines that are read of a reading do not have the same inputs and outputs
abbrev NoPair : Reading → Type 0
NoPair r = (a b : Fsmd) → ArePair r a b → interface_fault a b ≡ None → ⊥

-- what follows from two files of machines, whatever is said where they are refused
abbrev Two : (R : Fsmd → Operand → FileContent → Answer → Type 0) (Q : (a b : Fsmd) → Answer → Type 0) (P : (a b : Fsmd) → Rule) → Rule
Two R Q P = Opens Fsmd RefusesMachine SpellsMachine (λ a. Opens Fsmd (R a) SpellsMachine (λ b. ComparesPairs a b (Q a b) (P a b)))

module _ (R : Fsmd → Operand → FileContent → Answer → Type 0) (Q : (a b : Fsmd) → Answer → Type 0) (P : (a b : Fsmd) → Rule) (x : Answer) where
  pairs_end : (file : ℕ) (r : Reading) (a b : Fsmd) → (interface_fault a b ≡ None → ⊥) → ComparesPairs a b (Q a b) (P a b) file r x → r ≡ []
  pairs_end file r a b none (Other p e) = e
  pairs_end file r a b none (SameInterface i p) = absurd (none i)

  second_ends : (file : ℕ) (c : FileContent) (r : Reading) (a : Fsmd) → OfBytes c (SpellsMachine a) → NoPair (c ∷ r)
      → Opens Fsmd (R a) SpellsMachine (λ b. ComparesPairs a b (Q a b) (P a b)) file r x → length r ≤ 1
  second_ends file c [] a l none f = absurd f
  second_ends file c (d ∷ r) a l none (Refused p e) = suc_le_suc (length r) 0 (at_end r 0 e)
  second_ends file c (d ∷ r) a l none (Spelled b k p) = suc_le_suc (length r) 0 (at_end r 0 (pairs_end (file + 1) r a b (none a b (l, k)) p))

  two : (r : Reading) → NoPair r → Two R Q P 0 r x → length r ≤ 2
  two [] none f = absurd f
  two (c ∷ r) none (Refused p e) = suc_le_suc (length r) 1 (at_end r 1 e)
  two (c ∷ r) none (Spelled a l p) = suc_le_suc (length r) 1 (second_ends 1 c r a l none p)

pair_two : (P : Fsmd → Fsmd → Rule) (r : Reading) (x : Answer) → NoPair r → Two (λ a. RefusesMachine) RefusesPair P 0 r x → length r ≤ 2
pair_two P r x none f = two (λ a. RefusesMachine) RefusesPair P x r none f

-- no file is opened behind the only machine of a chain
one_file : (o : Option Asked) (r : Reading) (x : Answer) → OpensMachine (λ m. OpensLinks o m m 0 zero) 0 r x → length r ≤ 1
one_file o r x f = opens Fsmd RefusesMachine SpellsMachine (λ m. OpensLinks o m m 0 zero) 0 (λ m. ends 0 (IsOfChain m m 0)) 0 r x f

links_two : (o : Option Asked) (left : ℕ) (r : Reading) (x : Answer) → NoPair r → OpensMachine (λ m. OpensLinks o m m 0 left) 0 r x → length r ≤ 2
links_two o zero r x none f = few_two (length r) (one_file o r x f)
links_two o (suc left) r x none f =
    two (λ m f c. AtLink o 1 (RefusesMachine f c)) (λ m n. AtLink o 1 (RefusesPair m n)) (λ m n. BehindPair o 1 m n (λ k. OpensLinks o m k 1 left)) x r none f

two_end : (o : Option Asked) (r : Reading) (x : Answer) → NoPair r → Follows o r x → length r ≤ 2
two_end None r x none f = few_two (length r) (few_one (length r) (named_only None 0 r x f))
two_end (Some (Check left right cert steps)) r x none f = named_only (Some (Check left right cert steps)) 0 r x f
two_end (Some (Verify left right cert)) r x none f = pair_two (λ a b. OpensCertificate a b (λ n. Ends (IsJudged a b n))) r x none f
two_end (Some (Run machine ins steps)) r x none f = named_only (Some (Run machine ins steps)) 0 r x f
two_end (Some (Replay left right ins steps)) r x none f = pair_two (λ a b. OpensInputs a (λ i. Ends (IsOfReplay steps a b i))) r x none f
two_end (Some (Fmt machine)) r x none f = few_two (length r) (named_only (Some (Fmt machine)) 0 r x f)
two_end (Some (Cuts machine)) r x none f = few_two (length r) (named_only (Some (Cuts machine)) 0 r x f)
two_end (Some (Generate loops)) r x none f = few_two (length r) (few_one (length r) (named_only (Some (Generate loops)) 0 r x f))
two_end (Some (Compile program)) r x none f = few_two (length r) (named_only (Some (Compile program)) 0 r x f)
two_end (Some (Schedule machine counts)) r x none f = named_only (Some (Schedule machine counts)) 0 r x f
two_end (Some (Bind machine binding)) r x none f = named_only (Some (Bind machine binding)) 0 r x f
two_end (Some (Shrink left right ins steps)) r x none f = pair_two (λ a b. OpensInputs a (λ i. Ends (IsOfShrink steps a b i))) r x none f
two_end (Some (Chain files)) r x none f = links_two (Some (Chain files)) (links_of files) r x none f

pub only_two : (g : Call) → IsSettled g 0 → IsSettled g 1 → (file : ℕ) → file < 2 → IsSettled g file
only_two g s t zero b = s
only_two g s t (suc zero) b = t
only_two g s t (suc (suc file)) b = absurd (let h : suc (suc file) < 2 = b in omega arith)

pub only_three : (g : Call) → IsSettled g 0 → IsSettled g 1 → IsSettled g 2 → (file : ℕ) → file < 3 → IsSettled g file
only_three g s t u zero b = s
only_three g s t u (suc zero) b = t
only_three g s t u (suc (suc zero)) b = u
only_three g s t u (suc (suc (suc file))) b = absurd (let h : suc (suc (suc file)) < 3 = b in omega arith)

-- two files are settled, of which no machines with the same inputs and outputs are read
two_settled : (g : Call) → IsSettled g 0 → IsSettled g 1 → ((r : Reading) → Agree r (read_from g 0 2) → NoPair r) → AreSettledUpToRefused g
two_settled g s t none = record {
  count = 2;
  settled = only_two g s t;
  none_behind = λ r x a f. two_end g.asked r x (none r a) f;
}

not_spelled : (c d : FileContent) (y : Answer) → RefusesMachine (operand 1) d y → (r : Reading) → Agree r (c ∷ d ∷ []) → NoPair r
not_spelled c d y p [] a m n l i = absurd l
not_spelled c d y p (e ∷ []) a m n l i = absurd l
not_spelled c d y p (e ∷ f ∷ r) a m n l i = machine_opens.spelled_is_not_refused (operand 1) d n y (subst (λ k. OfBytes k (SpellsMachine n)) a.1.0 l.1) p

pub second_refused : (g : Call) → IsSettled g 0 → IsRefusedAsMachine g 1 → AreSettledUpToRefused g
second_refused g s k = two_settled g s k.settled
    (not_spelled (read_of (known_at_start g (operand 0))) (read_of (known_at_start g (operand 1))) k.answer k.refuses)

spelled_same : (c d : FileContent) (m n : Fsmd) → c ≡ d → OfBytes c (SpellsMachine m) → OfBytes d (SpellsMachine n) → m ≡ n
spelled_same c d m n e p q = one_spelled Fsmd RefusesMachine SpellsMachine machine_opens d m n (subst (λ k. OfBytes k (SpellsMachine m)) e p) q

not_alike : (c d : FileContent) (a b : Fsmd) → OfBytes c (SpellsMachine a) → OfBytes d (SpellsMachine b) → (interface_fault a b ≡ None → ⊥) → (r : Reading)
    → Agree r (c ∷ d ∷ []) → NoPair r
not_alike c d a b s t none [] g m n l i = absurd l
not_alike c d a b s t none (e ∷ []) g m n l i = absurd l
not_alike c d a b s t none (e ∷ f ∷ r) g m n l i =
    let left : m ≡ a = spelled_same e c m a g.0 l.0 s in
    let right : n ≡ b = spelled_same f d n b g.1.0 l.1 t in
    none (subst (λ k. interface_fault a k ≡ None) right (subst (λ k. interface_fault k n ≡ None) left i))

pub others_spelled : (g : Call) (a b : Fsmd) → IsKnown g 0 (SpellsMachine a) → IsKnown g 1 (SpellsMachine b) → (name : List ℕ) → interface_fault a b ≡ Some name
    → AreSettledUpToRefused g
others_spelled g a b left right name fault =
    two_settled g (known_settled g 0 (SpellsMachine a) left) (known_settled g 1 (SpellsMachine b) right)
    (not_alike (read_of (known_at_start g (operand 0))) (read_of (known_at_start g (operand 1))) a b (known_meets g 0 (SpellsMachine a) left)
    (known_meets g 1 (SpellsMachine b) right) (some_none name (interface_fault a b) fault))
