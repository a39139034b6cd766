use Rattle.fsmd_tool_laws.proofs.Stored.{stored_pass}
use Rattle.fsmd_tool_laws.proofs.Certificates.{in_one_way}
use Rattle.fsmd_tool_laws.proofs.laws.stored_certificates_pass.Goals as goal

pub returns : goal.returns
returns c =
    let w = in_one_way c.certificates_are_read_in_one_way.ensures.same c.certificates_are_read_in_one_way.ensures.taken c.texts_are_read.ensures in
    λ g x a b nodes e pair known shows p. stored_pass w c.certificates_that_hold_are_small.ensures c.written_certificates_that_hold_are_read.ensures.spelled g x
    a b nodes e pair known shows.certificate p
