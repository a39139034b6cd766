use Rattle.fsmd_tool_laws.proofs.AlikePairs.{alike_checked, alike_generated}
use Rattle.fsmd_tool_laws.proofs.alike.alike_machines_get_their_answers.Goals as goal

pub returns-clause-check : goal.returns-clause-check
returns-clause-check c = alike_checked

pub returns-clause-generate : goal.returns-clause-generate
returns-clause-generate c = alike_generated
