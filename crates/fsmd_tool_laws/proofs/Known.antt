-- What is known of files settles what was read of them, and what follows from it.
use Rattle.std.proofs.Common.{◌≡◌, ℕ, ◌+◌, List, [], ◌∷◌, None, refl, sym, ◌∙◌, ap, subst}
use Rattle.fs_base.specs.Outside.{FileKnowledge, Unknown, NoFile, Bytes}
use Rattle.fs_model.specs.Machines.{Fsmd}
use Rattle.fs_pair.specs.Interfaces.{interface_fault}
use Rattle.fsmd_replies.specs.declared.answer.Operand.{Operand}
use Rattle.fsmd_replies.specs.declared.answer.Answer.{Answer}
use Rattle.fsmd_replies.specs.AskedFiles.{operand}
use Rattle.fsmd_tool.specs.MachineFiles.{SpellsMachine}
use Rattle.fsmd_tool.specs.Readings.{FileContent, Readable, Unreadable, OfBytes, Reading}
use Rattle.fsmd_tool.specs.Refusals.{RefusesMachine, RefusesPair}
use Rattle.fsmd_tool.specs.Follows.{Ends, OpensWith, Refused, Spelled, Opens, OpensMachine, ComparesPairs, Other, SameInterface, OpensPair}
use Rattle.fsmd_tool.specs.Calls.{Call, known_at_start, FailedToRead, MayBeRead, MayRead, IsCorrectFrom}
use Rattle.fsmd_tool_laws.specs.Settled.{Settles, IsSettled, IsKnown, SpellPair, read_of}
use Rattle.fsmd_tool_laws.proofs.Contents.{OpensInOneWay, one_spelled}
use Rattle.fsmd_tool_laws.proofs.Files.{machine_opens}
use Rattle.fsmd_tool_laws.proofs.Following.{Rule, other_or_alike}

-- ---- what is settled was read in one way

pub settled_same : (k : FileKnowledge) (F : Type 0) (c d : FileContent) → Settles k F → MayBeRead k F c → MayBeRead k F d → c ≡ d
settled_same Unknown F c d s m n = absurd s
settled_same NoFile F (Readable b) d s m n = absurd m
settled_same NoFile F Unreadable (Readable b) s m n = absurd n
settled_same NoFile F Unreadable Unreadable s m n = refl
settled_same (Bytes b) F Unreadable d s m n = absurd (s m)
settled_same (Bytes b) F (Readable x) Unreadable s m n = absurd (s n)
settled_same (Bytes b) F (Readable x) (Readable y) s m n = ap Readable (m ∙ sym n)

pub settled_read : (k : FileKnowledge) (F : Type 0) (c : FileContent) → Settles k F → MayBeRead k F c → c ≡ read_of k
settled_read Unknown F c s m = absurd s
settled_read NoFile F (Readable b) s m = absurd m
settled_read NoFile F Unreadable s m = refl
settled_read (Bytes b) F (Readable x) s m = ap Readable m
settled_read (Bytes b) F Unreadable s m = absurd (s m)

-- what is known is settled, and is what is read
pub known_settled : (g : Call) (file : ℕ) (P : List ℕ → Type 0) → IsKnown g file P → IsSettled g file
known_settled g file P k = subst (λ h. Settles h (FailedToRead g (operand file))) (sym k.known) k.was_read

pub known_meets : (g : Call) (file : ℕ) (P : List ℕ → Type 0) → IsKnown g file P → OfBytes (read_of (known_at_start g (operand file))) P
known_meets g file P k = subst (λ h. OfBytes (read_of h) P) (sym k.known) k.meet

known_read : (g : Call) (file : ℕ) (P : List ℕ → Type 0) (c : FileContent) → IsKnown g file P
    → MayBeRead (known_at_start g (operand file)) (FailedToRead g (operand file)) c
    → OfBytes c P
known_read g file P c k m =
    subst (λ d. OfBytes d P) (sym (settled_read (known_at_start g (operand file)) (FailedToRead g (operand file)) c (known_settled g file P k) m))
    (known_meets g file P k)

-- ---- what follows, file by file

ended_of : (P : Answer → Type 0) (file : ℕ) (r : Reading) (x : Answer) → Ends P file r x → P x
ended_of P file [] x p = p
ended_of P file (c ∷ r) x p = absurd p

module _ (T : Type 0) (R : Operand → FileContent → Answer → Type 0) (S : T → List ℕ → Type 0) (o : OpensInOneWay T R S) (P : T → Rule) (g : Call)
    (file : ℕ) (v : T)
    (x : Answer) where
  spelled_of : (c : FileContent) (r : Reading) → OfBytes c (S v) → MayRead g (file + 1) r → OpensWith T R S P file c r x → IsCorrectFrom (P v) (file + 1) g x
  spelled_of c r s m (Refused p e) = absurd (o.spelled_is_not_refused (operand file) c v x s p)
  spelled_of c r s m (Spelled w l p) = record { reading = r; may_be_read = m; follows = subst (λ u. P u (file + 1) r x) (one_spelled T R S o c w v l s) p }

  opened_of : (r : Reading) → IsKnown g file (S v) → MayRead g file r → Opens T R S P file r x → IsCorrectFrom (P v) (file + 1) g x
  opened_of [] k m p = absurd p
  opened_of (c ∷ r) k m p = spelled_of c r (known_read g file (S v) c k m.0) m.1 p

  -- what follows from a file that is known to spell a value
  pub opened : IsKnown g file (S v) → IsCorrectFrom (Opens T R S P) file g x → IsCorrectFrom (P v) (file + 1) g x
  opened k p = opened_of p.reading k p.may_be_read p.follows

alike_of : (a b : Fsmd) (R : Answer → Type 0) (P : Rule) (file : ℕ) (r : Reading) (x : Answer) → ((y : Answer) → R y → interface_fault a b ≡ None → ⊥)
    → interface_fault a b ≡ None → ComparesPairs a b R P file r x → P file r x
alike_of a b R P file r x apart i (Other p e) = absurd (apart x p i)
alike_of a b R P file r x apart i (SameInterface j p) = p

-- what follows from two machines with the same inputs and outputs
pub alike : (a b : Fsmd) (R : Answer → Type 0) (P : Rule) (file : ℕ) (g : Call) (x : Answer) → ((y : Answer) → R y → interface_fault a b ≡ None → ⊥)
    → interface_fault a b ≡ None → IsCorrectFrom (ComparesPairs a b R P) file g x
    → IsCorrectFrom P file g x
alike a b R P file g x apart i p = record { reading = p.reading; may_be_read = p.may_be_read; follows = alike_of a b R P file p.reading x apart i p.follows }

-- what follows from two files that are known to spell such machines
pub paired : (P : Fsmd → Fsmd → Rule) (g : Call) (a b : Fsmd) (x : Answer) → SpellPair g a b → IsCorrectFrom (OpensPair P) 0 g x → IsCorrectFrom (P a b) 2 g x
paired P g a b x k p =
    let left : IsCorrectFrom (OpensMachine (λ n. ComparesPairs a n (RefusesPair a n) (P a n))) 1 g x =
    opened Fsmd RefusesMachine SpellsMachine machine_opens (λ m. OpensMachine (λ n. ComparesPairs m n (RefusesPair m n) (P m n))) g 0 a x k.left p in
    let right : IsCorrectFrom (ComparesPairs a b (RefusesPair a b) (P a b)) 2 g x =
    opened Fsmd RefusesMachine SpellsMachine machine_opens (λ n. ComparesPairs a n (RefusesPair a n) (P a n)) g 1 b x k.right left in
    alike a b (RefusesPair a b) (P a b) 2 g x (other_or_alike a b) k.alike right
