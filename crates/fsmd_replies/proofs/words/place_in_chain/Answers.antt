use Rattle.std.proofs.Common.{refl, arith}
use Rattle.fsmd_replies.proofs.Places.{first_place, past_places, even_before, odd_behind, last_place}
use Rattle.fsmd_replies.proofs.words.place_in_chain.Goals as goal
use Rattle.fsmd_replies.proofs.words.place_in_chain.Goals.{then-number-eq0, else-number-eq0}

pub returns-then-number-count : goal.returns-then-number-count
returns-then-number-count c = λ words e. elim c.if-number-eq0.branch [
  | then-number-eq0 w ↦ first_place words c.args.number (omega arith)
  | else-number-eq0 w ↦ past_places words c.args.number (omega arith)
]

pub returns-then-number-eq0-2 : goal.returns-then-number-eq0-2
returns-then-number-eq0-2 c = λ words e. even_before words _ c.args.number (omega arith) (omega arith) (omega arith)

pub returns-then-number-count-2 : goal.returns-then-number-count-2
returns-then-number-count-2 c = λ words e. odd_behind words _ c.args.number refl (omega arith) (omega arith)

pub returns-else-number-count-2 : goal.returns-else-number-count-2
returns-else-number-count-2 c = λ words e. last_place words c.args.number (omega arith) (omega arith)
