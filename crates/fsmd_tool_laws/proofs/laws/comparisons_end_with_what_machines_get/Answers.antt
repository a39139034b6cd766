use Rattle.fsmd_tool_laws.proofs.Outcomes.{check_ends, generate_ends}
use Rattle.fsmd_tool_laws.proofs.laws.comparisons_end_with_what_machines_get.Goals as goal

pub returns-clause-check : goal.returns-clause-check
returns-clause-check c = check_ends

pub returns-clause-generate : goal.returns-clause-generate
returns-clause-generate c = generate_ends
