-- What is correct, from the files that were loaded in the call: those of FromFiles, with the loads.
use Rattle.std.proofs.Common.{◌≡◌, ◌+◌, ℕ, suc, List, [], ◌∷◌, length, Option, Some, refl, sym, subst, arith}
use Rattle.std.specs.Prelude.{Result, Ok, Err, IfOk, None}
use Rattle.std.specs.Result.{IfErr, IsErrAnd}
use Rattle.fsmd_words.specs.AskedWords.{Asked}
use Rattle.fs_base.specs.Outside.{FilesTold}
use Rattle.fs_model.specs.Machines.{Fsmd}
use Rattle.fs_pair.specs.Interfaces.{interface_fault}
use Rattle.hls_program_parts.specs.Programs.{Program}
use Rattle.fsmd_replies.specs.declared.answer.Operand.{Operand}
use Rattle.fsmd_replies.specs.declared.answer.Answer.{Answer}
use Rattle.fsmd_answers.specs.declared.refused.Refused.{Refused as Refusal}
use Rattle.fsmd_answers.specs.declared.refused.Refused.TheVariants as refusal
use Rattle.fsmd_replies.specs.AskedFiles.{operand}
use Rattle.fsmd_answers.specs.MachineFiles.{SpellsMachine}
use Rattle.fsmd_answers.specs.Readings.{FileContent, Readable, Reading}
use Rattle.fsmd_answers.specs.Refusals.{RefusesPair}
use Rattle.fsmd_answers.specs.Refusing.{answer_in, made_answer, WhereAnswered}
use Rattle.fsmd_answers.specs.ProgramFiles.{RefusesProgram, SpellsProgram, IsOfProgram, IsOfProgramIn}
use Rattle.fsmd_answers.specs.Follows.{Ends, Opens, Refused, Spelled, Other, SameInterface, OpensPair, OpensProgram}
use Rattle.fsmd_answers.proofs.Maps.{answer_map}
use Rattle.fsmd_tool.specs.Calls.{Call, call, OnlyRead, LoadsFrom, known_at_start, MayHold, IsCorrectFrom, IsCorrectInOrder, AnswersBy}
use Rattle.fsmd_tool.specs.Loading.{GivesContent, RefusesNext, RefusesBoth}
use Rattle.fsmd_tool.proofs.FromFiles.{answers_map, both_follow}
use Rattle.fsmd_tool.proofs.Later.{read_map, each_since}
use Rattle.fsmd_tool.proofs.Loads.{loads_none, loads_on}

-- what the answer that is given meets, or that is in a refusal
pub in_answer : (P : Answer → Type 0) (r : Result Answer Refusal) (x : Answer) → answer_in r ≡ Some x → AnswersBy P r → P x
in_answer P (Ok y) x e h = subst P (let k : y ≡ x = cc e in k) h
in_answer P (Err (refusal.Answered y)) x e h = subst P (let k : y ≡ x = cc e in k) h
in_answer P (Err refusal.NoMemory) x e h = absurd (let k : None ≡ Some x = e in cc)

-- what is said of a refusal that is passed on
pub passed_on : (P : Answer → Type 0) (r : Result Answer Refusal) (e : Refusal) → IsErrAnd r (λ d. d ≡ e) → WhereAnswered P e → AnswersBy P r
passed_on P (Ok x) e is h = absurd is
passed_on P (Err d) e is h = subst (WhereAnswered P) (sym is) h

pub refused_on : {T : Type 0} (P : Answer → Type 0) (r : Result T Refusal) (e : Refusal) → IsErrAnd r (λ d. d ≡ e) → WhereAnswered P e
    → IfErr r (WhereAnswered P)
refused_on P (Ok x) e is h = absurd is
refused_on P (Err d) e is h = subst (WhereAnswered P) (sym is) h

-- what is correct, whatever was loaded
pub correct_of : (P : (file : ℕ) → Reading → Answer → Type 0) (n : ℕ) (g : Call) (e : Refusal) → WhereAnswered (IsCorrectInOrder P n g) e
    → WhereAnswered (IsCorrectFrom P n g) e
correct_of P n g e h = answer_map (IsCorrectInOrder P n g) (IsCorrectFrom P n g) (λ x c. c.correct) e h

-- no file more is opened, and none was loaded
pub ended_in_order : (P : Answer → Type 0) (n : ℕ) (o : Option Asked) (t : FilesTold) (x : Answer) → P x → IsCorrectInOrder (Ends P) n (call o t t) x
ended_in_order P n o t x p = record { correct = record { reading = []; may_be_read = tt; follows = p }; loads = loads_none o n t }

module _ (T : Type 0) (R : Operand → FileContent → Answer → Type 0) (S : T → List ℕ → Type 0) (P : T → (file : ℕ) → Reading → Answer → Type 0) (n : ℕ) where
  -- the next file is refused, and it alone was loaded
  pub refused_in_order : (g : Call) (e : Refusal) → LoadsFrom g.asked n 1 g.before g.now → WhereAnswered (GivesContent g (operand n) (R (operand n))) e
      → WhereAnswered (IsCorrectInOrder (Opens T R S P) n g) e
  refused_in_order g e l h = answer_map (GivesContent g (operand n) (R (operand n))) (IsCorrectInOrder (Opens T R S P) n g)
      (λ x m. record { correct = record { reading = m.content ∷ []; may_be_read = (m.may, tt); follows = Refused m.meets refl }; loads = l }) e h

  -- the next file spells a value; it was loaded, and then the files behind it
  pub spelled_in_order : (o : Option Asked) (old mid now : FilesTold) → OnlyRead old mid → LoadsFrom o n 1 old mid → (v : T)
      → MayHold (known_at_start (call o old now) (operand n)) (S v) → (r : Result Answer Refusal)
      → AnswersBy (IsCorrectInOrder (P v) (n + 1) (call o mid now)) r
      → AnswersBy (IsCorrectInOrder (Opens T R S P) n (call o old now)) r
  spelled_in_order o old mid now read l v h r a =
      answers_map (IsCorrectInOrder (P v) (n + 1) (call o mid now)) (IsCorrectInOrder (Opens T R S P) n (call o old now))
      (λ x c. record {
        correct = record {
          reading = Readable h.bytes ∷ c.correct.reading;
          may_be_read = (h.may, read_map (call o mid now) (call o old now) (each_since o old mid now read) (n + 1) c.correct.reading c.correct.may_be_read);
          follows = Spelled v h.meet c.correct.follows;
        };
        loads = loads_on o n 1 (length c.correct.reading) (n + 1) (suc (length c.correct.reading)) old mid now refl (omega arith) l c.loads;
      }) r a

-- the next file spells a value; it is the last, and it alone was loaded
pub last_in_order : (T : Type 0) (R : Operand → FileContent → Answer → Type 0) (S : T → List ℕ → Type 0) (Q : T → Answer → Type 0) (n : ℕ) (g : Call) (v : T)
    (x : Answer)
    → LoadsFrom g.asked n 1 g.before g.now → MayHold (known_at_start g (operand n)) (S v) → Q v x → IsCorrectInOrder (Opens T R S (λ w. Ends (Q w))) n g x
last_in_order T R S Q n g v x l h q = record {
  correct = record { reading = Readable h.bytes ∷ []; may_be_read = (h.may, tt); follows = Spelled v h.meet q };
  loads = l;
}

-- what holds of answers that take memory to make
pub made_answers : {E : Type 0} (P Q : Answer → Type 0) → ((x : Answer) → P x → Q x) → (made : Result Answer E) (r : Result Answer Refusal)
    → r ≡ made_answer made
    → IfOk made P → AnswersBy Q r
made_answers P Q f (Ok x) r e h = subst (AnswersBy Q) (sym e) (f x h)
made_answers P Q f (Err x) r e h = subst (AnswersBy Q) (sym e) tt

-- the next file spells a value; it is the last, it alone was loaded, and the answer takes memory to make
pub made_last : {E : Type 0} (T : Type 0) (R : Operand → FileContent → Answer → Type 0) (S : T → List ℕ → Type 0) (Q : T → Answer → Type 0) (n : ℕ)
    (g : Call) (v : T) → LoadsFrom g.asked n 1 g.before g.now → MayHold (known_at_start g (operand n)) (S v) → (made : Result Answer E)
    (r : Result Answer Refusal) → r ≡ made_answer made
    → IfOk made (Q v) → AnswersBy (IsCorrectInOrder (Opens T R S (λ w. Ends (Q w))) n g) r
made_last T R S Q n g v l h made r e q =
    made_answers (Q v) (IsCorrectInOrder (Opens T R S (λ w. Ends (Q w))) n g) (λ x p. last_in_order T R S Q n g v x l h p) made r e q

-- the file of a program, whose answer is made where it is read
pub program_in_order : (g : Call) (r : Result Answer Refusal) → LoadsFrom g.asked 0 1 g.before g.now
    → IfOk r (λ x. MayHold (known_at_start g (operand 0)) (λ bytes. IsOfProgramIn bytes x))
    → IfErr r (WhereAnswered (GivesContent g (operand 0) (RefusesProgram (operand 0))))
    → AnswersBy (IsCorrectInOrder (OpensProgram (λ p. Ends (IsOfProgram p))) 0 g) r
program_in_order g (Ok x) l h w =
    last_in_order Program RefusesProgram SpellsProgram IsOfProgram 0 g h.meet.program x l
    (record { bytes = h.bytes; may = h.may; meet = h.meet.spells }) h.meet.is
program_in_order g (Err e) l h w = refused_in_order Program RefusesProgram SpellsProgram (λ p. Ends (IsOfProgram p)) 0 g e l w

-- the next file is that of a machine with other inputs or outputs than the one before it, and it alone was loaded
pub next_in_order : (a b : Fsmd) (n : ℕ) (g : Call) (e : Refusal) → LoadsFrom g.asked n 1 g.before g.now
    → MayHold (known_at_start g (operand n)) (SpellsMachine b)
    → WhereAnswered (RefusesPair a b) e → WhereAnswered (IsCorrectInOrder (RefusesNext a) n g) e
next_in_order a b n g e l h w =
    answer_map (RefusesPair a b) (IsCorrectInOrder (RefusesNext a) n g)
    (λ x p. record {
      correct = record { reading = Readable h.bytes ∷ []; may_be_read = (h.may, tt); follows = Spelled b h.meet (Other p refl) };
      loads = l;
    }) e w

-- ---- two files of machines

module _ (P : (a b : Fsmd) → (file : ℕ) → Reading → Answer → Type 0) where
  -- a refusal of two files of machines, whatever follows from what they spell
  pub both_refused_in_order : (g : Call) (e : Refusal) → WhereAnswered (IsCorrectInOrder RefusesBoth 0 g) e
      → WhereAnswered (IsCorrectInOrder (OpensPair P) 0 g) e
  both_refused_in_order g e h =
      answer_map (IsCorrectInOrder RefusesBoth 0 g) (IsCorrectInOrder (OpensPair P) 0 g)
      (λ x c. record {
        correct = record {
          reading = c.correct.reading;
          may_be_read = c.correct.may_be_read;
          follows = both_follow P g x 0 c.correct.reading c.correct.follows;
        };
        loads = c.loads;
      }) e h

  -- two files of machines were loaded, and then the files behind them
  pub both_in_order : (o : Option Asked) (old mid now : FilesTold) → OnlyRead old mid → LoadsFrom o 0 2 old mid → (a b : Fsmd)
      → MayHold (known_at_start (call o old now) (operand 0)) (SpellsMachine a) → MayHold (known_at_start (call o old now) (operand 1)) (SpellsMachine b)
      → interface_fault a b ≡ None → (r : Result Answer Refusal) → AnswersBy (IsCorrectInOrder (P a b) 2 (call o mid now)) r
      → AnswersBy (IsCorrectInOrder (OpensPair P) 0 (call o old now)) r
  both_in_order o old mid now read l a b left right same r h =
      answers_map (IsCorrectInOrder (P a b) 2 (call o mid now)) (IsCorrectInOrder (OpensPair P) 0 (call o old now))
      (λ x c. record {
        correct = record {
          reading = Readable left.bytes ∷ Readable right.bytes ∷ c.correct.reading;
          may_be_read = (
            left.may,
            (
              right.may,
              read_map (call o mid now) (call o old now) (each_since o old mid now read) 2 c.correct.reading c.correct.may_be_read,
            ),
          );
          follows = Spelled a left.meet (Spelled b right.meet (SameInterface same c.correct.follows));
        };
        loads = loads_on o 0 2 (length c.correct.reading) 2 (suc (suc (length c.correct.reading))) old mid now refl (omega arith) l c.loads;
      }) r h
