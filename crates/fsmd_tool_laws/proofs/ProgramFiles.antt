-- The file of a program is refused in one way, and not where it spells one; and a program gets one answer.
use Rattle.std.proofs.Common.{◌≡◌, ℕ, List, length, sym, ◌∙◌, ap, subst}
use Rattle.fs_model.specs.Limits.{most_text_bytes}
use Rattle.fs_grammar.specs.declared.fault.TextFault.{TextFault}
use Rattle.fs_rules.specs.declared.check.CheckFault.{CheckFault}
use Rattle.fs_rules.specs.Rules.{BreaksNoRule, IsFirstBroken}
use Rattle.hls_program_parts.specs.Programs.{Program}
use Rattle.hls_program_parts.specs.Compiled.{parts_of}
use Rattle.hls_program_parts.proofs.Texts.{one_program, one_fault, spelled_program_never_stops}
use Rattle.fsmd_replies.specs.declared.answer.Operand.{Operand}
use Rattle.fsmd_replies.specs.declared.answer.Answer.{Answer}
use Rattle.fsmd_replies.specs.declared.answer.Answer.TheVariants.{Text, TextRefused, CheckRefused}
use Rattle.fsmd_tool.specs.Readings.{FileContent, OfBytes}
use Rattle.fsmd_tool.specs.ProgramFiles.{SpellsProgram, IsOfProgram, HasProgramFault, BreaksRule, RefusesProgram, UnreadProgram, ProgramByText}
use Rattle.fsmd_tool.specs.ProgramFiles.{ProgramByRule}
use Rattle.fsmd_tool_laws.proofs.Contents.{of_both, OpensInOneWay}
use Rattle.fsmd_tool_laws.proofs.Texts.{few_not_many, first_broken_once, lawful_unbroken}
use Rattle.fsmd_tool_laws.proofs.Files.{unread_once, unread_or}

program_once : (bytes : List ℕ) (p q : Program) → SpellsProgram p bytes → SpellsProgram q bytes → p ≡ q
program_once bytes p q s t = one_program bytes p q s.spells t.spells

fault_once : (bytes : List ℕ) (f g : TextFault) → HasProgramFault f bytes → HasProgramFault g bytes → f ≡ g
fault_once bytes f g p q = one_fault bytes f g p.stops q.stops

rule_once : (bytes : List ℕ) (f g : CheckFault) → BreaksRule f bytes → BreaksRule g bytes → f ≡ g
rule_once bytes f g p q =
    first_broken_once (parts_of q.program) f g (subst (λ k. IsFirstBroken (parts_of k) f) (one_program bytes p.program q.program p.spells q.spells) p.broken)
    q.broken

text_or_rule : (bytes : List ℕ) (f : TextFault) (g : CheckFault) → HasProgramFault f bytes → BreaksRule g bytes → ⊥
text_or_rule bytes f g p q = spelled_program_never_stops bytes q.program f q.spells p.stops

program_or_text : (bytes : List ℕ) (p : Program) (f : TextFault) → SpellsProgram p bytes → HasProgramFault f bytes → ⊥
program_or_text bytes p f s q = spelled_program_never_stops bytes p f s.spells q.stops

program_or_rule : (bytes : List ℕ) (p : Program) (f : CheckFault) → SpellsProgram p bytes → BreaksRule f bytes → ⊥
program_or_rule bytes p f s q =
    lawful_unbroken (parts_of q.program) f (subst (λ k. BreaksNoRule (parts_of k)) (one_program bytes p q.program s.spells q.spells) s.lawful) q.broken

refused_once : (file : Operand) (c : FileContent) (x y : Answer) → RefusesProgram file c x → RefusesProgram file c y → x ≡ y
refused_once file c x y (UnreadProgram u) (UnreadProgram v) = unread_once most_text_bytes file c x y u v
refused_once file c x y (UnreadProgram u) (ProgramByText f t e) =
    absurd (unread_or most_text_bytes file c (HasProgramFault f) x (λ b p l. few_not_many (length b) most_text_bytes p.few l) t u)
refused_once file c x y (UnreadProgram u) (ProgramByRule f t e) =
    absurd (unread_or most_text_bytes file c (BreaksRule f) x (λ b p l. few_not_many (length b) most_text_bytes p.few l) t u)
refused_once file c x y (ProgramByText f t e) (UnreadProgram u) =
    absurd (unread_or most_text_bytes file c (HasProgramFault f) y (λ b p l. few_not_many (length b) most_text_bytes p.few l) t u)
refused_once file c x y (ProgramByText f t e) (ProgramByText g s h) =
    e ∙ ap (λ i. TextRefused file i) (of_both c (HasProgramFault f) (HasProgramFault g) (f ≡ g) (λ b p q. fault_once b f g p q) t s) ∙ sym h
refused_once file c x y (ProgramByText f t e) (ProgramByRule g s h) =
    absurd (of_both c (HasProgramFault f) (BreaksRule g) ⊥ (λ b p q. text_or_rule b f g p q) t s)
refused_once file c x y (ProgramByRule f t e) (UnreadProgram u) =
    absurd (unread_or most_text_bytes file c (BreaksRule f) y (λ b p l. few_not_many (length b) most_text_bytes p.few l) t u)
refused_once file c x y (ProgramByRule f t e) (ProgramByText g s h) =
    absurd (of_both c (HasProgramFault g) (BreaksRule f) ⊥ (λ b p q. text_or_rule b g f p q) s t)
refused_once file c x y (ProgramByRule f t e) (ProgramByRule g s h) =
    e ∙ ap (λ i. CheckRefused file i) (of_both c (BreaksRule f) (BreaksRule g) (f ≡ g) (λ b p q. rule_once b f g p q) t s) ∙ sym h

spelled_or_refused : (file : Operand) (c : FileContent) (p : Program) (x : Answer) → OfBytes c (SpellsProgram p) → RefusesProgram file c x → ⊥
spelled_or_refused file c p x h (UnreadProgram u) =
    unread_or most_text_bytes file c (SpellsProgram p) x (λ b s l. few_not_many (length b) most_text_bytes s.few l) h u
spelled_or_refused file c p x h (ProgramByText f s e) = of_both c (SpellsProgram p) (HasProgramFault f) ⊥ (λ b t q. program_or_text b p f t q) h s
spelled_or_refused file c p x h (ProgramByRule f s e) = of_both c (SpellsProgram p) (BreaksRule f) ⊥ (λ b t q. program_or_rule b p f t q) h s

-- the file of a program is one thing
pub program_opens : OpensInOneWay Program RefusesProgram SpellsProgram
program_opens = record {
  one_refusal = refused_once;
  one_value = program_once;
  spelled_is_not_refused = spelled_or_refused;
}

-- a program gets one answer
pub compiled_once : (p : Program) (x y : Answer) → IsOfProgram p x → IsOfProgram p y → x ≡ y
compiled_once p x y l n = l.is ∙ ap Text (l.holds.is_canonical ∙ sym n.holds.is_canonical) ∙ sym n.is
