use Rattle.fsmd_tool_laws.proofs.Pairs.{pair_once}
use Rattle.fsmd_tool_laws.proofs.laws.two_machines_get_one_answer.Goals as goal

pub returns : goal.returns
returns c = pair_once
