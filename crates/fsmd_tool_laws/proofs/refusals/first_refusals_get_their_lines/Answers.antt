use Rattle.fsmd_tool_laws.proofs.Certificates.{in_one_way}
use Rattle.fsmd_tool_laws.proofs.FirstRefusals.{refusal_ends, only_refusals}
use Rattle.fsmd_tool_laws.proofs.refusals.first_refusals_get_their_lines.Goals as goal

pub returns-clause-line : goal.returns-clause-line
returns-clause-line c =
    refusal_ends (in_one_way c.certificates_are_read_in_one_way.ensures.same c.certificates_are_read_in_one_way.ensures.taken c.texts_are_read.ensures)

pub returns-clause-only : goal.returns-clause-only
returns-clause-only c = only_refusals
