use Rattle.std.proofs.Common.{refl}
use Rattle.fs_pair.specs.Positions.{positions}
use Rattle.cert_writer.specs.WrittenCertificates.{certificate_text}
use Rattle.cert_writer.proofs.Lengths.{file_bound}
use Rattle.search_laws.proofs.WrittenFiles.{written_file}
use Rattle.search_laws.proofs.certificate_laws.texts_of_certificates_are_files.Goals as goal

pub returns-clause-file : goal.returns-clause-file
returns-clause-file c = λ a b ns left right lawful normal. written_file a b left right ns lawful normal

pub returns-clause-short : goal.returns-clause-short
returns-clause-short c = λ a b ns left right lawful normal. file_bound a b left right (positions a b) ns normal lawful.ranks (certificate_text a b ns) refl
