use Rattle.fsmd_tool_laws.proofs.Settling.{settled_once, settled_one}
use Rattle.fsmd_tool_laws.proofs.Certificates.{in_one_way}
use Rattle.fsmd_tool_laws.proofs.laws.files_up_to_the_refused_one_settle_the_answer.Goals as goal

pub returns-clause-compared : goal.returns-clause-compared
returns-clause-compared c =
    let w = in_one_way c.certificates_are_read_in_one_way.ensures.same c.certificates_are_read_in_one_way.ensures.taken c.texts_are_read.ensures in
    settled_once w

pub returns-clause-uncompared : goal.returns-clause-uncompared
returns-clause-uncompared c =
    let w = in_one_way c.certificates_are_read_in_one_way.ensures.same c.certificates_are_read_in_one_way.ensures.taken c.texts_are_read.ensures in
    settled_one w
