use Rattle.fsmd_tool_laws.proofs.Settling.{all_settled, answered_settled, first_refused, second_refused, others_spelled}
use Rattle.fsmd_tool_laws.proofs.Stopped.{link_settled}
use Rattle.fsmd_tool_laws.proofs.Certificates.{in_one_way}
use Rattle.fsmd_tool_laws.proofs.laws.files_are_settled_up_to_the_refused_one.Goals as goal

pub returns-clause-all : goal.returns-clause-all
returns-clause-all c = all_settled

pub returns-clause-answered : goal.returns-clause-answered
returns-clause-answered c =
    let w = in_one_way c.certificates_are_read_in_one_way.ensures.same c.certificates_are_read_in_one_way.ensures.taken c.texts_are_read.ensures in
    answered_settled w

pub returns-clause-first : goal.returns-clause-first
returns-clause-first c = first_refused

pub returns-clause-second : goal.returns-clause-second
returns-clause-second c = second_refused

pub returns-clause-others : goal.returns-clause-others
returns-clause-others c = others_spelled

pub returns-clause-link : goal.returns-clause-link
returns-clause-link c =
    let w = in_one_way c.certificates_are_read_in_one_way.ensures.same c.certificates_are_read_in_one_way.ensures.taken c.texts_are_read.ensures in
    link_settled w
