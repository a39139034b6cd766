-- The file of keys and values is refused in one way, and not where it spells a value.
use Rattle.std.proofs.Common.{◌≡◌, ◌≤◌, ℕ, List, length, sym, ◌∙◌, ap}
use Rattle.fs_model.specs.Limits.{most_text_bytes}
use Rattle.fsmd_replies.specs.declared.answer.Operand.{Operand}
use Rattle.fsmd_replies.specs.declared.answer.KeyFault.{KeyFault}
use Rattle.fsmd_replies.specs.declared.answer.Answer.{Answer}
use Rattle.fsmd_replies.specs.declared.answer.Answer.TheVariants.{KeyRefused}
use Rattle.fsmd_tool.specs.Readings.{FileContent, OfBytes}
use Rattle.fsmd_tool.specs.Unread.{IsUnread}
use Rattle.fsmd_tool.specs.JsonKeys.{AreNotJson, RefusesKeys, UnreadKeys, ByJson, ByKey}
use Rattle.fsmd_tool_laws.proofs.Contents.{of_both, OpensInOneWay}
use Rattle.fsmd_tool_laws.proofs.Texts.{few_not_many}
use Rattle.fsmd_tool_laws.proofs.Files.{unread_once, unread_or}

-- such bytes are few, and one thing: no JSON, or one first fault at a key, or one value
pub record AreOneThing (T : Type 0) (F : KeyFault → (key bytes : List ℕ) → Type 0) (S : T → List ℕ → Type 0) : Type 0 where
  pub few_without : (b : List ℕ) → AreNotJson b → length b ≤ most_text_bytes
  pub few_faulty : (b : List ℕ) (f : KeyFault) (k : List ℕ) → F f k b → length b ≤ most_text_bytes
  pub few_spelled : (b : List ℕ) (v : T) → S v b → length b ≤ most_text_bytes
  pub without_or_faulty : (b : List ℕ) (f : KeyFault) (k : List ℕ) → AreNotJson b → F f k b → ⊥
  pub without_or_spelled : (b : List ℕ) (v : T) → AreNotJson b → S v b → ⊥
  pub faulty_or_spelled : (b : List ℕ) (f : KeyFault) (k : List ℕ) (v : T) → F f k b → S v b → ⊥
  pub one_fault : (b : List ℕ) (f g : KeyFault) (k j : List ℕ) → F f k b → F g j b → Path (KeyFault × List ℕ) (f, k) (g, j)
  pub one_value : (b : List ℕ) (v w : T) → S v b → S w b → v ≡ w

-- ---- refusals

without_read : (T : Type 0) (F : KeyFault → (key bytes : List ℕ) → Type 0) (S : T → List ℕ → Type 0) → AreOneThing T F S
    → (file : Operand) (c : FileContent) (x : Answer) → OfBytes c AreNotJson → IsUnread most_text_bytes file c x → ⊥
without_read T F S o file c x t u = unread_or most_text_bytes file c AreNotJson x (λ b p l. few_not_many (length b) most_text_bytes (o.few_without b p) l) t u

faulty_read : (T : Type 0) (F : KeyFault → (key bytes : List ℕ) → Type 0) (S : T → List ℕ → Type 0) → AreOneThing T F S
    → (file : Operand) (c : FileContent) (f : KeyFault) (k : List ℕ) (x : Answer) → OfBytes c (F f k)
    → IsUnread most_text_bytes file c x → ⊥
faulty_read T F S o file c f k x t u =
    unread_or most_text_bytes file c (F f k) x (λ b p l. few_not_many (length b) most_text_bytes (o.few_faulty b f k p) l) t u

without_or : (T : Type 0) (F : KeyFault → (key bytes : List ℕ) → Type 0) (S : T → List ℕ → Type 0) → AreOneThing T F S
    → (c : FileContent) (f : KeyFault) (k : List ℕ) → OfBytes c AreNotJson → OfBytes c (F f k) → ⊥
without_or T F S o c f k t s = of_both c AreNotJson (F f k) ⊥ (λ b p q. o.without_or_faulty b f k p q) t s

refused_once : (T : Type 0) (F : KeyFault → (key bytes : List ℕ) → Type 0) (S : T → List ℕ → Type 0) → AreOneThing T F S
    → (file : Operand) (c : FileContent) (x y : Answer) → RefusesKeys F file c x → RefusesKeys F file c y → x ≡ y
refused_once T F S o file c x y (UnreadKeys u) (UnreadKeys v) = unread_once most_text_bytes file c x y u v
refused_once T F S o file c x y (UnreadKeys u) (ByJson t e) = absurd (without_read T F S o file c x t u)
refused_once T F S o file c x y (UnreadKeys u) (ByKey f k t e) = absurd (faulty_read T F S o file c f k x t u)
refused_once T F S o file c x y (ByJson t e) (UnreadKeys u) = absurd (without_read T F S o file c y t u)
refused_once T F S o file c x y (ByJson t e) (ByJson s h) = e ∙ sym h
refused_once T F S o file c x y (ByJson t e) (ByKey f k s h) = absurd (without_or T F S o c f k t s)
refused_once T F S o file c x y (ByKey f k t e) (UnreadKeys u) = absurd (faulty_read T F S o file c f k y t u)
refused_once T F S o file c x y (ByKey f k t e) (ByJson s h) = absurd (without_or T F S o c f k s t)
refused_once T F S o file c x y (ByKey f k t e) (ByKey g j s h) =
    let same : Path (KeyFault × List ℕ) (f, k) (g, j) = of_both c (F f k) (F g j) (Path (KeyFault × List ℕ) (f, k) (g, j)) (λ b p q. o.one_fault b f g k j p q)
    t s in
    e ∙ ap (λ r. KeyRefused file r.0 r.1) same ∙ sym h

spelled_or_refused : (T : Type 0) (F : KeyFault → (key bytes : List ℕ) → Type 0) (S : T → List ℕ → Type 0) → AreOneThing T F S
    → (file : Operand) (c : FileContent) (v : T) (x : Answer) → OfBytes c (S v) → RefusesKeys F file c x → ⊥
spelled_or_refused T F S o file c v x i (UnreadKeys u) =
    unread_or most_text_bytes file c (S v) x (λ b p l. few_not_many (length b) most_text_bytes (o.few_spelled b v p) l) i u
spelled_or_refused T F S o file c v x i (ByJson t e) = of_both c AreNotJson (S v) ⊥ (λ b p q. o.without_or_spelled b v p q) t i
spelled_or_refused T F S o file c v x i (ByKey f k t e) = of_both c (F f k) (S v) ⊥ (λ b p q. o.faulty_or_spelled b f k v p q) t i

-- the file of such bytes is one thing
pub keys_open : (T : Type 0) (F : KeyFault → (key bytes : List ℕ) → Type 0) (S : T → List ℕ → Type 0) → AreOneThing T F S → OpensInOneWay T (RefusesKeys F) S
keys_open T F S o = record {
  one_refusal = λ file c x y p q. refused_once T F S o file c x y p q;
  one_value = o.one_value;
  spelled_is_not_refused = λ file c v x i p. spelled_or_refused T F S o file c v x i p;
}
