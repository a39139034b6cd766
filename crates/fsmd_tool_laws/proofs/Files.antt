-- The file of a machine is refused in one way, and not where it spells a machine.
use Rattle.std.proofs.Common.{◌≡◌, ℕ, List, refl, sym, ◌∙◌, ap}
use Rattle.fs_rules.specs.MachineOfParts.{machine_of}
use Rattle.fs_model.specs.Limits.{most_text_bytes}
use Rattle.fs_model.specs.Machines.{Fsmd}
use Rattle.fs_model.specs.Source.{Source}
use Rattle.fsmd_replies.specs.declared.answer.Operand.{Operand}
use Rattle.fsmd_replies.specs.declared.answer.Answer.{Answer}
use Rattle.fsmd_replies.specs.declared.answer.Answer.TheVariants.{TextRefused, CheckRefused}
use Rattle.fsmd_tool.specs.MachineFiles.{SpellsParts, SpellsMachine, IsTooLong, HasTextFault, HasCheckFault}
use Rattle.fsmd_tool.specs.Readings.{FileContent, Readable, Unreadable, OfBytes}
use Rattle.fsmd_tool.specs.Unread.{IsUnread, Failed, Long}
use Rattle.fsmd_tool.specs.Refusals.{RefusesMachine, Unread, ByText, ByRule}
use Rattle.fsmd_tool_laws.proofs.Contents.{of_both, unreadable_bytes, OpensInOneWay}
use Rattle.fsmd_tool_laws.proofs.Texts.{text_fault_once, check_fault_once, text_or_check, spells_once, parts_once, spells_no_text_fault, spells_no_check_fault}
use Rattle.fsmd_tool_laws.proofs.Texts.{long_spells_none, long_no_text_fault, long_no_check_fault}

pub unread_once : (limit : ℕ) (file : Operand) (c : FileContent) (x y : Answer) → IsUnread limit file c x → IsUnread limit file c y → x ≡ y
unread_once limit file c x y (Failed u e) (Failed v h) = e ∙ sym h
unread_once limit file c x y (Failed u e) (Long l h) = absurd (unreadable_bytes c (IsTooLong limit) u l)
unread_once limit file c x y (Long l e) (Failed v h) = absurd (unreadable_bytes c (IsTooLong limit) v l)
unread_once limit file c x y (Long l e) (Long k h) = e ∙ sym h

-- bytes that are not too long were read
pub unread_or : (limit : ℕ) (file : Operand) (c : FileContent) (P : List ℕ → Type 0) (x : Answer) → ((b : List ℕ) → P b → IsTooLong limit b → ⊥) → OfBytes c P
    → IsUnread limit file c x → ⊥
unread_or limit file c P x f p (Failed u e) = unreadable_bytes c P u p
unread_or limit file c P x f p (Long l e) = of_both c P (IsTooLong limit) ⊥ f p l

machine_once : (file : Operand) (c : FileContent) (x y : Answer) → RefusesMachine file c x → RefusesMachine file c y → x ≡ y
machine_once file c x y (Unread u) (Unread v) = unread_once most_text_bytes file c x y u v
machine_once file c x y (Unread u) (ByText f t e) = absurd (unread_or most_text_bytes file c (HasTextFault f) x (λ b p l. long_no_text_fault b f p l) t u)
machine_once file c x y (Unread u) (ByRule f t e) = absurd (unread_or most_text_bytes file c (HasCheckFault f) x (λ b p l. long_no_check_fault b f p l) t u)
machine_once file c x y (ByText f t e) (Unread u) = absurd (unread_or most_text_bytes file c (HasTextFault f) y (λ b p l. long_no_text_fault b f p l) t u)
machine_once file c x y (ByText f t e) (ByText g s h) =
    e ∙ ap (λ i. TextRefused file i) (of_both c (HasTextFault f) (HasTextFault g) (f ≡ g) (λ b p q. text_fault_once b f g p q) t s) ∙ sym h
machine_once file c x y (ByText f t e) (ByRule g s h) = absurd (of_both c (HasTextFault f) (HasCheckFault g) ⊥ (λ b p q. text_or_check b f g p q) t s)
machine_once file c x y (ByRule f t e) (Unread u) = absurd (unread_or most_text_bytes file c (HasCheckFault f) y (λ b p l. long_no_check_fault b f p l) t u)
machine_once file c x y (ByRule f t e) (ByText g s h) = absurd (of_both c (HasTextFault g) (HasCheckFault f) ⊥ (λ b p q. text_or_check b g f p q) s t)
machine_once file c x y (ByRule f t e) (ByRule g s h) =
    e ∙ ap (λ i. CheckRefused file i) (of_both c (HasCheckFault f) (HasCheckFault g) (f ≡ g) (λ b p q. check_fault_once b f g p q) t s) ∙ sym h

machine_or_refused : (file : Operand) (c : FileContent) (m : Fsmd) (x : Answer) → OfBytes c (SpellsMachine m) → RefusesMachine file c x → ⊥
machine_or_refused file c m x s (Unread u) = unread_or most_text_bytes file c (SpellsMachine m) x (λ b p l. long_spells_none b m p l) s u
machine_or_refused file c m x s (ByText f t e) = of_both c (SpellsMachine m) (HasTextFault f) ⊥ (λ b p q. spells_no_text_fault b m f p q) s t
machine_or_refused file c m x s (ByRule f t e) = of_both c (SpellsMachine m) (HasCheckFault f) ⊥ (λ b p q. spells_no_check_fault b m f p q) s t

-- the file of a machine is one thing
pub machine_opens : OpensInOneWay Fsmd RefusesMachine SpellsMachine
machine_opens = record {
  one_refusal = machine_once;
  one_value = spells_once;
  spelled_is_not_refused = machine_or_refused;
}

-- what spells parts spells their machine
parts_machine : (c : FileContent) (p : Source) → OfBytes c (SpellsParts p) → OfBytes c (SpellsMachine (machine_of p))
parts_machine (Readable b) p h = record { parts = p; spells = h; machine = refl }
parts_machine Unreadable p h = absurd h

-- the file of the parts of a machine is one thing
pub parts_open : OpensInOneWay Source RefusesMachine SpellsParts
parts_open = record {
  one_refusal = machine_once;
  one_value = parts_once;
  spelled_is_not_refused = λ file c p x s r. machine_or_refused file c (machine_of p) x (parts_machine c p s) r;
}
