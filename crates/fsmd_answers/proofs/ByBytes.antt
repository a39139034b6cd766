-- Why bytes are refused.
use Rattle.std.proofs.Common.{◌≡◌, ℕ, List, refl, sym, subst}
use Rattle.fsmd_replies.specs.declared.answer.Operand.{Operand}
use Rattle.fsmd_replies.specs.declared.answer.KeyFault.{KeyFault}
use Rattle.fsmd_replies.specs.declared.answer.Answer.TheVariants.{KeyRefused}
use Rattle.fsmd_answers.specs.declared.refused.Refused.{Refused as Refusal}
use Rattle.fsmd_answers.specs.declared.refused.Refused.TheVariants.{Answered}
use Rattle.fsmd_answers.specs.Readings.{Readable}
use Rattle.fsmd_answers.specs.JsonKeys.{RefusesKeys, ByKey}
use Rattle.fsmd_answers.specs.Refusing.{WhereAnswered}

-- the refusal of bytes with a fault at a key
pub at_key : (F : KeyFault → (key bytes : List ℕ) → Type 0) (file : Operand) (bytes key : List ℕ) (fault : KeyFault) (r : Refusal) → F fault key bytes
    → r ≡ Answered (KeyRefused file fault key)
    → WhereAnswered (RefusesKeys F file (Readable bytes)) r
at_key F file bytes key fault r h e = subst (WhereAnswered (RefusesKeys F file (Readable bytes))) (sym e) (ByKey fault key h refl)
