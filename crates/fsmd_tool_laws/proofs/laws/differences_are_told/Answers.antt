use Rattle.fsmd_tool_laws.proofs.Pairs.{difference_told}
use Rattle.fsmd_tool_laws.proofs.laws.differences_are_told.Goals as goal

pub returns : goal.returns
returns c = difference_told
