-- The lines of chains.
use Rattle.std.specs.Prelude.{ℕ, List, ◌++◌, Option, codes, decimal}
use Rattle.fsmd_words.specs.AskedWords.{Asked}
use Rattle.fsmd_replies.specs.declared.answer.Answer.{Answer}
use Rattle.fsmd_replies.specs.Replies.{lines_of}

-- the line of a chain of so many machines whose links hold
abbrev pub chain_line : (machines : ℕ) → List ℕ
chain_line machines = codes "yes: " ++ (decimal machines ++ codes " machines\n")

-- the lines of an answer, told as those of a link of this number, from 1
abbrev pub link_lines : Option Asked → (link : ℕ) → Answer → List ℕ
link_lines asked link stop = codes "link " ++ (decimal link ++ (codes ": " ++ lines_of stop asked))
