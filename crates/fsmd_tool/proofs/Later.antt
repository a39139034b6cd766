-- What holds of a call holds of it where it began before, or where it ends later.
use Rattle.std.proofs.Common.{◌≡◌, ◌≤◌, ◌<◌, ◌+◌, ◌⊎◌, ◌∙◌, ℕ, List, [], ◌∷◌, Option, refl, subst, inl, inr, arith}
use Rattle.std.specs.Prelude.{Result}
use Rattle.fsmd_words.specs.AskedWords.{Asked}
use Rattle.fs_base.specs.Outside.{FileKnowledge, FilesTold, Rose, NoneFell, AreHeld, last_count}
use Rattle.fsmd_replies.specs.declared.answer.Answer.{Answer}
use Rattle.fsmd_replies.specs.declared.answer.Operand.{Operand}
use Rattle.fsmd_answers.specs.declared.refused.Refused.{Refused as Refusal}
use Rattle.fsmd_replies.specs.AskedFiles.{operand, file_word_of}
use Rattle.fsmd_answers.specs.Readings.{FileContent, Readable, Unreadable, Reading}
use Rattle.fsmd_tool.specs.Calls.{Call, call, OnlyRead, known_at_start, FailedToRead, MayBeRead, MayHold, MayRead, IsCorrectFrom, AnswersBy}
use Rattle.fsmd_tool.proofs.FromFiles.{answers_map}

-- ---- files that were only read

pub read_both : (old mid now : FilesTold) → OnlyRead old mid → OnlyRead mid now → OnlyRead old now
read_both old mid now r s = record {
  counts = λ name. omega (arith, r.counts name, s.counts name);
  store_counts = λ name. omega (arith, r.store_counts name, s.store_counts name);
  unchanged = λ name. s.unchanged name ∙ r.unchanged name;
}

-- ---- counts

or_more : (c n : ℕ) → c ≤ n → (c < n) ⊎ (n ≡ c)
or_more c n h = grind arith

-- a count that rose rose also where it is counted on
rose_until : (a b c : ℕ) → a ≤ b → b ≤ c → Rose a b → Rose a c
rose_until a b c h k (inl less) = inl (omega arith)
rose_until a b c h k (inr last) = elim (or_more last_count c (omega arith)) [
  | inl more ↦ inl (omega arith)
  | inr same ↦ inr same
]

-- and where it was counted before
pub rose_since : (a b c : ℕ) → a ≤ b → Rose b c → Rose a c
rose_since a b c h (inl less) = inl (omega arith)
rose_since a b c h (inr last) = inr last

-- ---- what may have been read

-- what is known, and that it failed to be read, may be said of a file at another time
may_kept : (h k : FileKnowledge) (F G : Type 0) → h ≡ k → (F → G) → (c : FileContent) → MayBeRead h F c → MayBeRead k G c
may_kept h k F G e f (Readable bytes) m = subst (λ o. AreHeld o bytes) e m
may_kept h k F G e f Unreadable m = f m

pub hold_kept : (h k : FileKnowledge) (P : List ℕ → Type 0) → h ≡ k → MayHold h P → MayHold k P
hold_kept h k P e m = record { bytes = m.bytes; may = subst (λ o. AreHeld o m.bytes) e m.may; meet = m.meet }

-- in another call the same may have been read, where that is so of each file
module _ (g k : Call)
    (each : (file : Operand) (c : FileContent) → MayBeRead (known_at_start g file) (FailedToRead g file) c
    → MayBeRead (known_at_start k file) (FailedToRead k file)
    c) where
  pub read_map : (n : ℕ) (r : Reading) → MayRead g n r → MayRead k n r
  read_map n [] m = tt
  read_map n (c ∷ rest) m = (each (operand n) c m.0, read_map (n + 1) rest m.1)

  pub correct_map : (P : (file : ℕ) → Reading → Answer → Type 0) (n : ℕ) (x : Answer) → IsCorrectFrom P n g x → IsCorrectFrom P n k x
  correct_map P n x c = record { reading = c.reading; may_be_read = read_map n c.reading c.may_be_read; follows = c.follows }

-- in a call that began before, where files were only read until then
module _ (o : Option Asked) (old mid now : FilesTold) (read : OnlyRead old mid) where
  pub each_since : (file : Operand) (c : FileContent) → MayBeRead (known_at_start (call o mid now) file) (FailedToRead (call o mid now) file) c
      → MayBeRead (known_at_start (call o old now) file) (FailedToRead (call o old now) file) c
  each_since file c m =
      may_kept (mid.holds (file_word_of o file)) (old.holds (file_word_of o file)) (FailedToRead (call o mid now) file) (FailedToRead (call o old now) file)
      (read.unchanged (file_word_of o file))
      (λ rose. rose_since (old.faults (file_word_of o file)) (mid.faults (file_word_of o file)) (now.faults (file_word_of o file))
      (read.counts (file_word_of o file)) rose) c m

  pub correct_since : (P : (file : ℕ) → Reading → Answer → Type 0) (n : ℕ) (x : Answer) → IsCorrectFrom P n (call o mid now) x
      → IsCorrectFrom P n (call o old now) x
  correct_since P n x c = correct_map (call o mid now) (call o old now) each_since P n x c

  pub answers_since : (P : (file : ℕ) → Reading → Answer → Type 0) (n : ℕ) (r : Result Answer Refusal) → AnswersBy (IsCorrectFrom P n (call o mid now)) r
      → AnswersBy (IsCorrectFrom P n (call o old now)) r
  answers_since P n r a = answers_map (IsCorrectFrom P n (call o mid now)) (IsCorrectFrom P n (call o old now)) (λ x c. correct_since P n x c) r a

-- in a call that ends later, where no count of faults falls
module _ (o : Option Asked) (old mid now : FilesTold) (begin : NoneFell old.faults mid.faults) (end : NoneFell mid.faults now.faults) where
  pub each_until : (file : Operand) (c : FileContent) → MayBeRead (known_at_start (call o old mid) file) (FailedToRead (call o old mid) file) c
      → MayBeRead (known_at_start (call o old now) file) (FailedToRead (call o old now) file) c
  each_until file c m =
      may_kept (old.holds (file_word_of o file)) (old.holds (file_word_of o file)) (FailedToRead (call o old mid) file)
      (FailedToRead (call o old now) file) refl
      (λ rose. rose_until (old.faults (file_word_of o file)) (mid.faults (file_word_of o file)) (now.faults (file_word_of o file)) (begin (file_word_of o file))
      (end (file_word_of o file)) rose) c m

  pub correct_until : (P : (file : ℕ) → Reading → Answer → Type 0) (n : ℕ) (x : Answer) → IsCorrectFrom P n (call o old mid) x
      → IsCorrectFrom P n (call o old now) x
  correct_until P n x c = correct_map (call o old mid) (call o old now) each_until P n x c
