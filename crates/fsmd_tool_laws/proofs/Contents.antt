-- What was read of a file is one thing.
use Rattle.std.proofs.Common.{◌≡◌, ℕ, List, Option, Some, None, sym, ◌∙◌, subst}
use Rattle.fsmd_replies.specs.declared.answer.Operand.{Operand}
use Rattle.fsmd_replies.specs.declared.answer.Answer.{Answer}
use Rattle.fsmd_tool.specs.Readings.{FileContent, Readable, Unreadable, OfBytes}

pub some_none : {A : Type 0} (x : A) (o : Option A) → o ≡ Some x → o ≡ None → ⊥
some_none x o e n = let f : Some x ≡ None = sym e ∙ n in cc

pub of_both : (c : FileContent) (P Q : List ℕ → Type 0) (R : Type 0) → ((b : List ℕ) → P b → Q b → R) → OfBytes c P → OfBytes c Q → R
of_both (Readable b) P Q R f p q = f b p q
of_both Unreadable P Q R f p q = absurd p

pub unreadable_bytes : (c : FileContent) (P : List ℕ → Type 0) → c ≡ Unreadable → OfBytes c P → ⊥
unreadable_bytes c P e p = subst (λ d. OfBytes d P) e p

-- what is read of a file is one thing: it is refused by R in one way, or spells one value by S
pub record OpensInOneWay (T : Type 0) (R : Operand → FileContent → Answer → Type 0) (S : T → List ℕ → Type 0) : Type 0 where
  pub one_refusal : (file : Operand) (c : FileContent) (x y : Answer) → R file c x → R file c y → x ≡ y
  pub one_value : (b : List ℕ) (v w : T) → S v b → S w b → v ≡ w
  pub spelled_is_not_refused : (file : Operand) (c : FileContent) (v : T) (x : Answer) → OfBytes c (S v) → R file c x → ⊥

-- a file spells one value
pub one_spelled : (T : Type 0) (R : Operand → FileContent → Answer → Type 0) (S : T → List ℕ → Type 0) → OpensInOneWay T R S → (c : FileContent) (v w : T)
    → OfBytes c (S v) → OfBytes c (S w) → v ≡ w
one_spelled T R S o c v w p q = of_both c (S v) (S w) (v ≡ w) (λ b s t. o.one_value b v w s t) p q
