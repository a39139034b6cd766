-- Answers that are lines.
use Rattle.std.specs.Prelude.{◌≡◌, ℕ, List}
use Rattle.fsmd_replies.specs.declared.answer.Answer.{Answer}

-- the answer is lines of which P holds, of one of the kinds of answers that are lines
pub record HasLines (P : List ℕ → Type 0) (kind : List ℕ → Answer) (answer : Answer) : Type 0 where
  pub lines : List ℕ
  pub holds : P lines
  pub is : answer ≡ kind lines
