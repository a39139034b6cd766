use Rattle.fsmd_tool_laws.proofs.Following.{follows_one, uncompared_one}
use Rattle.fsmd_tool_laws.proofs.Certificates.{in_one_way}
use Rattle.fsmd_tool_laws.proofs.laws.one_answer_follows.Goals as goal

pub returns-clause-compared : goal.returns-clause-compared
returns-clause-compared c =
    let w = in_one_way c.certificates_are_read_in_one_way.ensures.same c.certificates_are_read_in_one_way.ensures.taken c.texts_are_read.ensures in
    λ o r s x y a p q. (follows_one w o 0 r s x y a p q).1

pub returns-clause-uncompared : goal.returns-clause-uncompared
returns-clause-uncompared c =
    let w = in_one_way c.certificates_are_read_in_one_way.ensures.same c.certificates_are_read_in_one_way.ensures.taken c.texts_are_read.ensures in
    λ o r s x y e a p q. uncompared_one o s x y e (follows_one w o 0 r s x y a p q).1

pub returns-clause-reading : goal.returns-clause-reading
returns-clause-reading c =
    let w = in_one_way c.certificates_are_read_in_one_way.ensures.same c.certificates_are_read_in_one_way.ensures.taken c.texts_are_read.ensures in
    λ o r s x y a p q. (follows_one w o 0 r s x y a p q).0
