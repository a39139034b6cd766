use Rattle.fsmd_tool_laws.proofs.Certificates.{certificate_once, cert_fault_once, spells_no_cert_fault, in_one_way}
use Rattle.fsmd_tool_laws.proofs.laws.a_file_spells_one_certificate.Goals as goal

pub returns-clause-one : goal.returns-clause-one
returns-clause-one c =
    let w = in_one_way c.certificates_are_read_in_one_way.ensures.same c.certificates_are_read_in_one_way.ensures.taken c.texts_are_read.ensures in
    certificate_once w

pub returns-clause-fault : goal.returns-clause-fault
returns-clause-fault c =
    let w = in_one_way c.certificates_are_read_in_one_way.ensures.same c.certificates_are_read_in_one_way.ensures.taken c.texts_are_read.ensures in
    cert_fault_once w

pub returns-clause-no_fault : goal.returns-clause-no_fault
returns-clause-no_fault c =
    let w = in_one_way c.certificates_are_read_in_one_way.ensures.same c.certificates_are_read_in_one_way.ensures.taken c.texts_are_read.ensures in
    spells_no_cert_fault w
