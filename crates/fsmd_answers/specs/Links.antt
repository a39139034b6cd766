-- Which answer a chain gets.
use Rattle.std.specs.Prelude.{◌≡◌, ℕ, zero, suc, ◌+◌, List, [], ◌∷◌, Option}
use Rattle.fsmd_words.specs.AskedWords.{Asked}
use Rattle.fs_model.specs.Machines.{Fsmd}
use Rattle.fs_model.specs.Runs.{SameBehaviour}
use Rattle.fsmd_replies.specs.declared.answer.Answer.{Answer}
use Rattle.fsmd_replies.specs.declared.answer.Answer.TheVariants.{Text, Link}
use Rattle.fsmd_replies.specs.Statuses.{status_of}
use Rattle.fsmd_replies.specs.ChainTexts.{chain_line, link_lines}

-- how many links the words behind the first machine of a chain are: a certificate and a machine each
abbrev pub links_in : List (List ℕ) → ℕ
links_in (certificate ∷ machine ∷ words) = suc (links_in words)
links_in words = zero

abbrev pub links_of : List (List ℕ) → ℕ
links_of [] = zero
links_of (machine ∷ words) = links_in words

-- the answer is one that meets P, told as that of the link of this number, with its status
pub record AtLink (asked : Option Asked) (link : ℕ) (P : Answer → Type 0) (answer : Answer) : Type 0 where
  pub stop : Answer
  pub meets : P stop
  pub is : answer ≡ Link (status_of stop) (link_lines asked link stop)

-- the answer to a chain whose links hold, so many: how many machines it has. The first one and the last one have the same
-- behaviour
pub record IsOfChain (first last : Fsmd) (links : ℕ) (answer : Answer) : Type 0 where
  pub same : SameBehaviour first last
  pub is : answer ≡ Text (chain_line (links + 1))
