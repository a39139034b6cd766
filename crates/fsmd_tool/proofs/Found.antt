-- What files spell, where an answer that follows from them is no refusal.
use Rattle.std.proofs.Common.{◌≡◌, ◌+◌, ℕ, false, List, [], ◌∷◌, Option, Some, None, refl, sym, subst}
use Rattle.std.specs.Prelude.{IsTrue, is_some}
use Rattle.std.proofs.lemmas.Bool.{false≢true}
use Rattle.fsmd_words.specs.AskedWords.{Asked, Check, Verify, Generate}
use Rattle.fs_base.specs.Outside.{FileKnowledge}
use Rattle.fs_model.specs.Machines.{Fsmd}
use Rattle.fs_pair.specs.Interfaces.{interface_fault}
use Rattle.cert_bisimulation.specs.Tables.{Node}
use Rattle.sym_facts.specs.Facts.{Fact}
use Rattle.fsmd_replies.specs.declared.answer.Operand.{Operand}
use Rattle.fsmd_replies.specs.declared.answer.Status.{Status}
use Rattle.fsmd_replies.specs.declared.answer.Answer.{Answer}
use Rattle.fsmd_replies.specs.AskedFiles.{operand, file_word_of, compares, is_verify, cert_of, step_limit}
use Rattle.fsmd_answers.specs.MachineFiles.{SpellsMachine}
use Rattle.fsmd_answers.specs.Readings.{FileContent, Readable, Unreadable, OfBytes, Reading}
use Rattle.fsmd_answers.specs.Refusals.{RefusesMachine, RefusesPair, RefusesCertificate, SpellsCertificate}
use Rattle.fsmd_answers.specs.ComparisonAnswers.{IsOfPair, left_of, right_of}
use Rattle.fsmd_answers.specs.Verdicts.{IsJudged}
use Rattle.fsmd_answers.specs.Follows.{Ends, Opens, Refused, Spelled, ComparesPairs, Other, SameInterface, OpensMachine, OpensCertificate, OpensPair}
use Rattle.fsmd_answers.specs.Follows.{FollowsFrom}
use Rattle.fsmd_answers.proofs.Loops.{loops_alike}
use Rattle.fsmd_tool.specs.Calls.{Call, known_at_start, FailedToRead, MayBeRead, MayHold, MayRead, IsCorrectFrom}
use Rattle.fsmd_tool.specs.Correct.{IsCorrectAnswer}
use Rattle.fsmd_tool.specs.Equivalent.{AreOfFiles, ArePairedMachines, OfFiles, OfLoops}
use Rattle.fsmd_tool.proofs.Statuses.{HasStatus, is_refusal, not_refused, machine_refuses, pair_refuses, certificate_refuses}

-- ---- files one after another

may_hold : (k : FileKnowledge) (F : Type 0) (c : FileContent) (P : List ℕ → Type 0) → MayBeRead k F c → OfBytes c P → MayHold k P
may_hold k F (Readable bytes) P m h = record { bytes = bytes; may = m; meet = h }
may_hold k F Unreadable P m h = absurd h

-- a value that the next file spells, and what follows from the files behind it
pub record Opened (T : Type 0) (S : T → List ℕ → Type 0) (P : T → (file : ℕ) → Reading → Answer → Type 0) (n : ℕ) (g : Call) (x : Answer) : Type 0 where
  pub value : T
  pub spells : MayHold (known_at_start g (operand n)) (S value)
  pub rest : IsCorrectFrom (P value) (n + 1) g x

module _ (T : Type 0) (R : Operand → FileContent → Answer → Type 0) (S : T → List ℕ → Type 0) (P : T → (file : ℕ) → Reading → Answer → Type 0)
    (n : ℕ) (g : Call)
    (x : Answer) where
  opened : (r : Reading) → ((c : FileContent) → R (operand n) c x → ⊥) → MayRead g n r → Opens T R S P n r x → Opened T S P n g x
  opened [] never may o = absurd o
  opened (c ∷ rest) never may (Refused p e) = absurd (never c p)
  opened (c ∷ rest) never may (Spelled v h p) = record {
    value = v;
    spells = may_hold (known_at_start g (operand n)) (FailedToRead g (operand n)) c (S v) may.0 h;
    rest = record { reading = rest; may_be_read = may.1; follows = p };
  }

  -- the next file is not refused
  pub open_next : ((c : FileContent) → R (operand n) c x → ⊥) → IsCorrectFrom (Opens T R S P) n g x → Opened T S P n g x
  open_next never c = opened c.reading never c.may_be_read c.follows

-- no file more is opened
ends_so : (P : Answer → Type 0) (n : ℕ) (x : Answer) (r : Reading) → Ends P n r x → P x
ends_so P n x [] h = h
ends_so P n x (c ∷ rest) h = absurd h

pub end_of : (P : Answer → Type 0) (n : ℕ) (g : Call) (x : Answer) → IsCorrectFrom (Ends P) n g x → P x
end_of P n g x c = ends_so P n x c.reading c.follows

-- two machines have the same inputs and outputs, and this follows
pub record HaveTheSame (a b : Fsmd) (P : (file : ℕ) → Reading → Answer → Type 0) (n : ℕ) (g : Call) (x : Answer) : Type 0 where
  pub alike : interface_fault a b ≡ None
  pub rest : IsCorrectFrom P n g x

module _ (a b : Fsmd) (R : Answer → Type 0) (P : (file : ℕ) → Reading → Answer → Type 0) (n : ℕ) (g : Call) (x : Answer) where
  have_the_same : (r : Reading) → (R x → ⊥) → MayRead g n r → ComparesPairs a b R P n r x → HaveTheSame a b P n g x
  have_the_same r never may (Other p e) = absurd (never p)
  have_the_same r never may (SameInterface e p) = record { alike = e; rest = record { reading = r; may_be_read = may; follows = p } }

  pub alike_of : (R x → ⊥) → IsCorrectFrom (ComparesPairs a b R P) n g x → HaveTheSame a b P n g x
  alike_of never c = have_the_same c.reading never c.may_be_read c.follows

-- ---- two files of machines

-- two machines with the same inputs and outputs that the first two files spell, and what follows from the files behind them
pub record OfPair (P : (a b : Fsmd) → (file : ℕ) → Reading → Answer → Type 0) (g : Call) (x : Answer) : Type 0 where
  pub left : Fsmd
  pub right : Fsmd
  pub first : MayHold (known_at_start g (operand 0)) (SpellsMachine left)
  pub second : MayHold (known_at_start g (operand 1)) (SpellsMachine right)
  pub alike : interface_fault left right ≡ None
  pub rest : IsCorrectFrom (P left right) 2 g x

module _ (P : (a b : Fsmd) → (file : ℕ) → Reading → Answer → Type 0) (g : Call) (s : Status) (x : Answer) (away : is_refusal s ≡ false) (e : HasStatus s x)
  where
    no_machine : (n : ℕ) (c : FileContent) → RefusesMachine (operand n) c x → ⊥
    no_machine n c p = not_refused s x away (machine_refuses (operand n) c x p) e

    pub of_pair : IsCorrectFrom (OpensPair P) 0 g x → OfPair P g x
    of_pair c =
        let a = open_next Fsmd RefusesMachine SpellsMachine (λ v. OpensMachine (λ w. ComparesPairs v w (RefusesPair v w) (P v w))) 0 g x (no_machine 0) c in
        let b = open_next Fsmd RefusesMachine SpellsMachine (λ w. ComparesPairs a.value w (RefusesPair a.value w) (P a.value w)) 1 g x (no_machine 1) a.rest in
        let k = alike_of a.value b.value (RefusesPair a.value b.value) (P a.value b.value) 2 g x
        (λ p. not_refused s x away (pair_refuses a.value b.value x p) e) b.rest in
        record { left = a.value; right = b.value; first = a.spells; second = b.spells; alike = k.alike; rest = k.rest }

-- ---- machines that are compared

pub record Compared (g : Call) (x : Answer) : Type 0 where
  pub left : Fsmd
  pub right : Fsmd
  pub paired : ArePairedMachines g left right
  pub answer : IsOfPair (step_limit g.asked) (is_some (cert_of g.asked)) left right x

module _ (g : Call) (s : Status) (x : Answer) (away : is_refusal s ≡ false) (e : HasStatus s x) where
  -- what a file may hold, by the words that are asked
  held : (o : Option Asked) → g.asked ≡ o → (n : ℕ) (m : Fsmd) → MayHold (known_at_start g (operand n)) (SpellsMachine m)
      → MayHold (g.before.holds (file_word_of o (operand n))) (SpellsMachine m)
  held o is n m h = subst (λ k. MayHold (g.before.holds (file_word_of k (operand n))) (SpellsMachine m)) is h

  of_files : (left right : List ℕ) (cert : Option (List ℕ)) (steps : ℕ) → g.asked ≡ Some (Check left right cert steps)
      → IsCorrectFrom (OpensPair (λ a b. Ends (IsOfPair steps (is_some cert) a b))) 0 g x → Compared g x
  of_files left right cert steps is c =
      let b = of_pair (λ a b. Ends (IsOfPair steps (is_some cert) a b)) g s x away e c in
      let p = end_of (IsOfPair steps (is_some cert) b.left b.right) 2 g x b.rest in
      let files : AreOfFiles g b.left b.right =
      record {
        left_file = left;
        right_file = right;
        cert = cert;
        steps = steps;
        asked = is;
        first = held (Some (Check left right cert steps)) is 0 b.left b.first;
        second = held (Some (Check left right cert steps)) is 1 b.right b.second;
      } in
      record {
        left = b.left;
        right = b.right;
        paired = record { compared = OfFiles files; alike = b.alike };
        answer = subst (λ k. IsOfPair (step_limit k) (is_some (cert_of k)) b.left b.right x) (sym is) p;
      }

  of_loops : (n : ℕ) → g.asked ≡ Some (Generate n) → IsOfPair (step_limit (Some (Generate n))) false (left_of n) (right_of n) x → Compared g x
  of_loops n is p = record {
    left = left_of n;
    right = right_of n;
    paired = record { compared = OfLoops (record { loops = n; asked = is; first = refl; second = refl }); alike = loops_alike n };
    answer = subst (λ k. IsOfPair (step_limit k) (is_some (cert_of k)) (left_of n) (right_of n) x) (sym is) p;
  }

  compared_by : (o : Option Asked) → g.asked ≡ o → IsTrue (compares o) → IsCorrectFrom (FollowsFrom o) 0 g x → Compared g x
  compared_by (Some (Check left right cert steps)) is t c = of_files left right cert steps is c
  compared_by (Some (Generate n)) is t c = of_loops n is (end_of (IsOfPair (step_limit (Some (Generate n))) false (left_of n) (right_of n)) 0 g x c)
  compared_by _ is t c = absurd (false≢true t)

  pub compared : IsCorrectAnswer g x → IsTrue (compares g.asked) → Compared g x
  compared c t = compared_by g.asked refl t c

-- ---- a certificate that is checked

pub record Checked (g : Call) (x : Answer) : Type 0 where
  pub left : Fsmd
  pub right : Fsmd
  pub nodes : List (Node Fact)
  pub first : MayHold (known_at_start g (operand 0)) (SpellsMachine left)
  pub second : MayHold (known_at_start g (operand 1)) (SpellsMachine right)
  pub third : MayHold (known_at_start g (operand 2)) (SpellsCertificate left right nodes)
  pub alike : interface_fault left right ≡ None
  pub judged : IsJudged left right nodes x

module _ (g : Call) (s : Status) (x : Answer) (away : is_refusal s ≡ false) (e : HasStatus s x) where
  of_certificate : IsCorrectFrom (OpensPair (λ a b. OpensCertificate a b (λ nodes. Ends (IsJudged a b nodes)))) 0 g x → Checked g x
  of_certificate c =
      let b = of_pair (λ a b. OpensCertificate a b (λ nodes. Ends (IsJudged a b nodes))) g s x away e c in
      let k = open_next (List (Node Fact)) (RefusesCertificate b.left b.right) (SpellsCertificate b.left b.right)
      (λ nodes. Ends (IsJudged b.left b.right nodes)) 2 g x
      (λ d p. not_refused s x away (certificate_refuses b.left b.right (operand 2) d x p) e) b.rest in
      record {
        left = b.left;
        right = b.right;
        nodes = k.value;
        first = b.first;
        second = b.second;
        third = k.spells;
        alike = b.alike;
        judged = end_of (IsJudged b.left b.right k.value) 3 g x k.rest;
      }

  checked_by : (o : Option Asked) → IsTrue (is_verify o) → IsCorrectFrom (FollowsFrom o) 0 g x → Checked g x
  checked_by (Some (Verify left right cert)) t c = of_certificate c
  checked_by _ t c = absurd (false≢true t)

  pub checked : IsCorrectAnswer g x → IsTrue (is_verify g.asked) → Checked g x
  checked c t = checked_by g.asked t c
