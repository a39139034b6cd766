use Rattle.cert_writer.specs.WrittenCertificates.{certificate_text}
use Rattle.search_laws.proofs.laws.written_certificates_of_closed_searches_are_read.Goals as goal

pub returns-clause-spelled : goal.returns-clause-spelled
returns-clause-spelled c = λ a b nodes h.
    c.written_certificates_are_read.ensures a b (certificate_text a b nodes) nodes h.left_sound h.right_sound h.lawful h.normal
    (c.texts_of_certificates_are_files.ensures.file a b nodes h.left_sound h.right_sound h.lawful h.normal)

pub returns-clause-lawful : goal.returns-clause-lawful
returns-clause-lawful c = λ a b nodes h. h.lawful
