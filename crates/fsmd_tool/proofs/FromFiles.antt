-- What is correct, from what was loaded.
use Rattle.std.proofs.Common.{◌∙◌, ◌≡◌, ◌<◌, ◌+◌, ℕ, List, [], ◌∷◌, length, refl, sym, ap, subst, arith}
use Rattle.std.specs.Prelude.{Result, Ok, Err, IfOk, None, replicate}
use Rattle.std.proofs.lemmas.List.{length-replicate}
use Rattle.std.specs.Result.{IfErr}
use Rattle.fs_base.specs.Outside.{FileKnowledge, Unknown, NoFile, Bytes, AreHeld, MoreAreHeld, Rose, WhereFailed, WhereTooLong}
use Rattle.fs_base.specs.declared.outside.LoadError.{LoadError}
use Rattle.fs_base.specs.declared.outside.LoadError.TheVariants as errors
use Rattle.fs_model.specs.Machines.{Fsmd}
use Rattle.fs_model.specs.Source.{Source}
use Rattle.fs_pair.specs.Interfaces.{interface_fault}
use Rattle.fsmd_replies.specs.declared.answer.Operand.{Operand}
use Rattle.fsmd_replies.specs.declared.answer.Answer.{Answer}
use Rattle.fsmd_replies.specs.declared.answer.Answer.TheVariants.{TooLong}
use Rattle.fsmd_answers.specs.declared.refused.Refused.{Refused as Refusal}
use Rattle.fsmd_replies.specs.AskedFiles.{operand, file_word_of}
use Rattle.fsmd_answers.specs.MachineFiles.{SpellsParts, SpellsMachine}
use Rattle.fsmd_answers.specs.Readings.{FileContent, Readable, Unreadable, Reading}
use Rattle.fsmd_answers.specs.Unread.{IsUnread, Failed, Long}
use Rattle.fsmd_answers.specs.Refusals.{RefusesMachine, RefusesPair}
use Rattle.fsmd_answers.specs.Refusing.{WhereAnswered, IsLoaded}
use Rattle.fsmd_answers.specs.ProgramFiles.{IsOfProgramIn}
use Rattle.fsmd_answers.specs.Follows.{Ends, Opens, Refused, Spelled, ComparesPairs, Other, SameInterface, OpensMachine, OpensPair}
use Rattle.fsmd_answers.proofs.Maps.{answer_map, ok_map, err_map}
use Rattle.fsmd_tool.specs.Calls.{Call, known_at_start, FailedToRead, MayHold, IsCorrectFrom, AnswersBy}
use Rattle.fsmd_tool.specs.Loading.{unread_refusal, MayGive, GivesContent, NothingFollows, RefusesNext, RefusesBoth}

-- what holds of answers, for another cause
pub answers_map : (P Q : Answer → Type 0) → ((x : Answer) → P x → Q x) → (r : Result Answer Refusal) → AnswersBy P r → AnswersBy Q r
answers_map P Q f (Ok x) h = f x h
answers_map P Q f (Err e) h = answer_map P Q f e h

-- ---- what a file may give

-- a refusal of bytes that a file holds
pub bytes_given : {T : Type 0} (k : FileKnowledge) (F : Type 0) (bytes : List ℕ) (P : FileContent → Answer → Type 0) (r : Result T Refusal) → AreHeld k bytes
    → IfErr r (WhereAnswered (P (Readable bytes)))
    → IfErr r (WhereAnswered (λ x. MayGive k F (λ c. P c x)))
bytes_given k F bytes P r m h =
    err_map (WhereAnswered (P (Readable bytes))) (WhereAnswered (λ x. MayGive k F (λ c. P c x)))
    (λ e w. answer_map (P (Readable bytes)) (λ x. MayGive k F (λ c. P c x)) (λ x p. record { content = Readable bytes; may = m; meets = p }) e w) r h

-- some bytes, more than so many
record Longer (n : ℕ) : Type 0 where
  bytes : List ℕ
  more : n < length bytes

longer : (n : ℕ) → Longer n
longer n = let xs : List ℕ = replicate (n + 1) 0 in let e : length xs ≡ n + 1 = length-replicate (n + 1) 0 in record { bytes = xs; more = omega (arith, e) }

pub too_long : (k h : FileKnowledge) (F : Type 0) (limit : ℕ) (file : Operand) → h ≡ k → MoreAreHeld h limit
    → MayGive k F (λ c. IsUnread limit file c (TooLong file limit))
too_long Unknown h F limit file e m = record { content = Readable (longer limit).bytes; may = tt; meets = Long (longer limit).more refl }
too_long NoFile h F limit file e m = absurd (subst (λ o. MoreAreHeld o limit) e m)
too_long (Bytes b) h F limit file e m = record { content = Readable b; may = refl; meets = Long (subst (λ o. MoreAreHeld o limit) e m) refl }

-- a file that was not loaded was not read, and is refused so
module _ (g : Call) (file : Operand) (limit : ℕ) where
  unread_given : (name : List ℕ) (error : LoadError) → name ≡ file_word_of g.asked file
      → WhereFailed (Rose (g.before.faults name) (g.now.faults name)) error → WhereTooLong (MoreAreHeld (g.before.holds name) limit) error
      → WhereAnswered (GivesContent g file (IsUnread limit file)) (unread_refusal file limit error)
  unread_given name errors.Failed e rose more =
      record { content = Unreadable; may = subst (λ w. Rose (g.before.faults w) (g.now.faults w)) e rose; meets = Failed refl refl }
  unread_given name errors.TooLong e rose more = too_long _ _ (FailedToRead g file) limit file (ap g.before.holds e) more
  unread_given name errors.NoMemory e rose more = tt

  pub unread_as : (P : FileContent → Answer → Type 0) → ((c : FileContent) (x : Answer) → IsUnread limit file c x → P c x)
      → (name : List ℕ) (error : LoadError) (r : Refusal) → r ≡ unread_refusal file limit error → name ≡ file_word_of g.asked file
      → WhereFailed (Rose (g.before.faults name) (g.now.faults name)) error → WhereTooLong (MoreAreHeld (g.before.holds name) limit) error
      → WhereAnswered (GivesContent g file P) r
  unread_as P f name error r is e rose more = subst (WhereAnswered (GivesContent g file P)) (sym is)
      (answer_map (GivesContent g file (IsUnread limit file)) (GivesContent g file P)
      (λ x m. record { content = m.content; may = m.may; meets = f m.content x m.meets }) (unread_refusal file limit error)
      (unread_given name error e rose more))

-- what is said of bytes that were loaded is said of bytes that the file may hold
pub held_bytes : (holds : List ℕ → FileKnowledge) (name word xs ys : List ℕ) → name ≡ word → ys ≡ xs → AreHeld (holds name) xs → AreHeld (holds word) ys
held_bytes holds name word xs ys e is h = subst (λ w. AreHeld (holds w) ys) e (subst (AreHeld (holds name)) (sym is) h)

pub held_of : {T E : Type 0} (k : FileKnowledge) (bytes : List ℕ) (r : Result T E) (P : T → List ℕ → Type 0) → AreHeld k bytes → IfOk r (λ v. P v bytes)
    → IfOk r (λ v. MayHold k (P v))
held_of k bytes r P m h = ok_map (λ v. P v bytes) (λ v. MayHold k (P v)) (λ v p. record { bytes = bytes; may = m; meet = p }) r h

-- a program that bytes spell is one that a file may hold
pub compiled_held : {E : Type 0} (k : FileKnowledge) (bytes : List ℕ) (r : Result Answer E) → AreHeld k bytes → IfOk r (IsOfProgramIn bytes)
    → IfOk r (λ x. MayHold k (λ b. IsOfProgramIn b x))
compiled_held k bytes r m h = ok_map (IsOfProgramIn bytes) (λ x. MayHold k (λ b. IsOfProgramIn b x)) (λ x p. record { bytes = bytes; may = m; meet = p }) r h

-- a file of loaded parts spells these parts
pub parts_held : (k : FileKnowledge) (parts : Source) (m : Fsmd) → MayHold k (IsLoaded parts m) → MayHold k (SpellsParts parts)
parts_held k parts m h = record { bytes = h.bytes; may = h.may; meet = h.meet.spells }

-- a file of a loaded machine spells this machine
pub machine_held : (k : FileKnowledge) (parts : Source) (loaded m : Fsmd) → m ≡ loaded → MayHold k (IsLoaded parts loaded) → MayHold k (SpellsMachine m)
machine_held k parts loaded m e h = record {
  bytes = h.bytes;
  may = h.may;
  meet = record { parts = parts; spells = h.meet.spells; machine = e ∙ h.meet.machine };
}

-- ---- files one after another

-- no file more is opened
pub ended : (P : Answer → Type 0) (n : ℕ) (g : Call) (x : Answer) → P x → IsCorrectFrom (Ends P) n g x
ended P n g x p = record { reading = []; may_be_read = tt; follows = p }

module _ (T : Type 0) (R : Operand → FileContent → Answer → Type 0) (S : T → List ℕ → Type 0) (P : T → (file : ℕ) → Reading → Answer → Type 0)
    (n : ℕ) (g : Call)
  where
    -- the next file is refused
    pub refused : (x : Answer) → GivesContent g (operand n) (R (operand n)) x → IsCorrectFrom (Opens T R S P) n g x
    refused x m = record { reading = m.content ∷ []; may_be_read = (m.may, tt); follows = Refused m.meets refl }

    -- the next file spells a value
    pub spelled : (v : T) (x : Answer) → MayHold (known_at_start g (operand n)) (S v) → IsCorrectFrom (P v) (n + 1) g x → IsCorrectFrom (Opens T R S P) n g x
    spelled v x h c = record { reading = Readable h.bytes ∷ c.reading; may_be_read = (h.may, c.may_be_read); follows = Spelled v h.meet c.follows }

    pub refused_as : (e : Refusal) → WhereAnswered (GivesContent g (operand n) (R (operand n))) e → WhereAnswered (IsCorrectFrom (Opens T R S P) n g) e
    refused_as e h = answer_map (GivesContent g (operand n) (R (operand n))) (IsCorrectFrom (Opens T R S P) n g) refused e h

    pub spelled_as : (v : T) → MayHold (known_at_start g (operand n)) (S v) → (r : Result Answer Refusal) → AnswersBy (IsCorrectFrom (P v) (n + 1) g) r
        → AnswersBy (IsCorrectFrom (Opens T R S P) n g) r
    spelled_as v h r a = answers_map (IsCorrectFrom (P v) (n + 1) g) (IsCorrectFrom (Opens T R S P) n g) (λ x c. spelled v x h c) r a

-- the next file spells a value, and it is the last
pub spelled_last :
    (T : Type 0) (R : Operand → FileContent → Answer → Type 0) (S : T → List ℕ → Type 0) (Q : T → Answer → Type 0) (n : ℕ) (g : Call) (v : T)
    (x : Answer)
    → MayHold (known_at_start g (operand n)) (S v) → Q v x → IsCorrectFrom (Opens T R S (λ w. Ends (Q w))) n g x
spelled_last T R S Q n g v x h q = spelled T R S (λ w. Ends (Q w)) n g v x h (ended (Q v) (n + 1) g x q)

module _ (a b : Fsmd) (R : Answer → Type 0) (P : (file : ℕ) → Reading → Answer → Type 0) (n : ℕ) (g : Call) (x : Answer) where
  -- two machines have the same inputs and outputs
  pub alike : interface_fault a b ≡ None → IsCorrectFrom P n g x → IsCorrectFrom (ComparesPairs a b R P) n g x
  alike e c = record { reading = c.reading; may_be_read = c.may_be_read; follows = SameInterface e c.follows }

-- ---- the same, of what follows otherwise

pub opens_map : (T : Type 0) (R Q : Operand → FileContent → Answer → Type 0) (S : T → List ℕ → Type 0) (P M : T → (file : ℕ) → Reading → Answer → Type 0)
    (x y : Answer)
    → ((f : Operand) (c : FileContent) → R f c x → Q f c y) → ((v : T) (n : ℕ) (r : Reading) → P v n r x → M v n r y) → (n : ℕ) (r : Reading)
    → Opens T R S P n r x → Opens T Q S M n r y
opens_map T R Q S P M x y f h n [] o = absurd o
opens_map T R Q S P M x y f h n (c ∷ rest) (Refused p e) = Refused (f (operand n) c p) e
opens_map T R Q S P M x y f h n (c ∷ rest) (Spelled v s p) = Spelled v s (h v (n + 1) rest p)

pub pairs_map : (a b : Fsmd) (R Q : Answer → Type 0) (P M : (file : ℕ) → Reading → Answer → Type 0) (x y : Answer) → (R x → Q y)
    → ((n : ℕ) (r : Reading) → P n r x → M n r y)
    → (n : ℕ) (r : Reading) → ComparesPairs a b R P n r x → ComparesPairs a b Q M n r y
pairs_map a b R Q P M x y f h n r (Other p e) = Other (f p) e
pairs_map a b R Q P M x y f h n r (SameInterface e p) = SameInterface e (h n r p)

-- ---- two files of machines

module _ (P : (a b : Fsmd) → (file : ℕ) → Reading → Answer → Type 0) (g : Call) where
  next_follows : (a : Fsmd) (x : Answer) (n : ℕ) (r : Reading) → RefusesNext a n r x → OpensMachine (λ b. ComparesPairs a b (RefusesPair a b) (P a b)) n r x
  next_follows a x n r h =
      opens_map Fsmd RefusesMachine RefusesMachine SpellsMachine (λ b. ComparesPairs a b (RefusesPair a b) NothingFollows)
      (λ b. ComparesPairs a b (RefusesPair a b) (P a b))
      x x (λ f c p. p)
      (λ b. pairs_map a b (RefusesPair a b) (RefusesPair a b) NothingFollows (P a b) x x (λ p. p) (λ m q p. absurd p)) n r h

  pub both_follow : (x : Answer) (n : ℕ) (r : Reading) → RefusesBoth n r x → OpensPair P n r x
  both_follow x n r h =
      opens_map Fsmd RefusesMachine RefusesMachine SpellsMachine RefusesNext
      (λ a. OpensMachine (λ b. ComparesPairs a b (RefusesPair a b) (P a b))) x x (λ f c p. p)
      (λ a m q p. next_follows a x m q p) n r h

  -- a refusal of two files of machines, whatever follows from what they spell
  pub pair_refused : (e : Refusal) → WhereAnswered (IsCorrectFrom RefusesBoth 0 g) e → WhereAnswered (IsCorrectFrom (OpensPair P) 0 g) e
  pair_refused e h =
      answer_map (IsCorrectFrom RefusesBoth 0 g) (IsCorrectFrom (OpensPair P) 0 g)
      (λ x c. record { reading = c.reading; may_be_read = c.may_be_read; follows = both_follow x 0 c.reading c.follows }) e h

  -- two files of machines, and what follows from the files behind them
  pub pair_spelled : (a b : Fsmd) → MayHold (known_at_start g (operand 0)) (SpellsMachine a) → MayHold (known_at_start g (operand 1)) (SpellsMachine b)
      → interface_fault a b ≡ None
      → (r : Result Answer Refusal) → AnswersBy (IsCorrectFrom (P a b) 2 g) r → AnswersBy (IsCorrectFrom (OpensPair P) 0 g) r
  pair_spelled a b left right same r h =
      spelled_as Fsmd RefusesMachine SpellsMachine (λ v. OpensMachine (λ w. ComparesPairs v w (RefusesPair v w) (P v w))) 0 g a left r
      (spelled_as Fsmd RefusesMachine SpellsMachine (λ w. ComparesPairs a w (RefusesPair a w) (P a w)) 1 g b right r
      (answers_map (IsCorrectFrom (P a b) 2 g) (IsCorrectFrom (ComparesPairs a b (RefusesPair a b) (P a b)) 2 g)
      (λ x c. alike a b (RefusesPair a b) (P a b) 2 g x same c) r h))
