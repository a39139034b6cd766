use Rattle.fsmd_tool_laws.proofs.Correct.{certificate_passes}
use Rattle.fsmd_tool_laws.proofs.Certificates.{in_one_way}
use Rattle.fsmd_tool_laws.proofs.laws.certificates_that_hold_pass.Goals as goal

pub returns : goal.returns
returns c =
    let w = in_one_way c.certificates_are_read_in_one_way.ensures.same c.certificates_are_read_in_one_way.ensures.taken c.texts_are_read.ensures in
    certificate_passes w
