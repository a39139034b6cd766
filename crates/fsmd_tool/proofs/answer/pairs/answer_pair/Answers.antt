use Rattle.std.proofs.Common.{refl}
use Rattle.fsmd_tool.proofs.Running.{if_ok, if_err}
use Rattle.fsmd_tool.proofs.Loads.{at_most_none}
use Rattle.fsmd_tool.proofs.Answering.{of_ok}
use Rattle.fsmd_tool.proofs.answer.pairs.answer_pair.Goals as goal

pub returns-in-Ok-clause-answers : goal.returns-in-Ok-clause-answers
returns-in-Ok-clause-answers g c = if_ok _ c.in-Ok.pair _ c.in-Ok.is c.answer_behind.ensures.answers

pub returns-in-Err-clause-refused : goal.returns-in-Err-clause-refused
returns-in-Err-clause-refused g c = if_err _ c.in-Err.refused _ c.in-Err.is refl

pub returns-in-Err-clause-at_most : goal.returns-in-Err-clause-at_most
returns-in-Err-clause-at_most g c = at_most_none _ 2 _ _

pub answer_behind-requires-clause-paired : goal.answer_behind-requires-clause-paired
answer_behind-requires-clause-paired g c = of_ok _ c.in-Ok.pair _ c.in-Ok.is c.requires.paired

pub answer_behind-requires-clause-alike : goal.answer_behind-requires-clause-alike
answer_behind-requires-clause-alike g c = of_ok _ c.in-Ok.pair _ c.in-Ok.is c.requires.alike

pub answer_behind-requires-clause-ports : goal.answer_behind-requires-clause-ports
answer_behind-requires-clause-ports g c = of_ok _ c.in-Ok.pair _ c.in-Ok.is c.requires.ports
