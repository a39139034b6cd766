use Rattle.fsmd_tool_laws.proofs.Correct.{correct_once, correct_one}
use Rattle.fsmd_tool_laws.proofs.Certificates.{in_one_way}
use Rattle.fsmd_tool_laws.proofs.laws.at_most_one_answer_is_correct.Goals as goal

pub returns-clause-compared : goal.returns-clause-compared
returns-clause-compared c =
    let w = in_one_way c.certificates_are_read_in_one_way.ensures.same c.certificates_are_read_in_one_way.ensures.taken c.texts_are_read.ensures in
    correct_once w

pub returns-clause-uncompared : goal.returns-clause-uncompared
returns-clause-uncompared c =
    let w = in_one_way c.certificates_are_read_in_one_way.ensures.same c.certificates_are_read_in_one_way.ensures.taken c.texts_are_read.ensures in
    correct_one w
