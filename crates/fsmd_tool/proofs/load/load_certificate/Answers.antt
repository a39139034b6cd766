use Rattle.fsmd_answers.specs.Refusals.{RefusesCertificate}
use Rattle.fsmd_tool.proofs.FromFiles.{bytes_given}
use Rattle.fsmd_tool.proofs.load.load_certificate.Goals as goal

pub returns-clause-refused : goal.returns-clause-refused
returns-clause-refused g c =
    bytes_given _ _ c.in_ok-bytes.bytes.items (RefusesCertificate c.args.a.now c.args.b.now c.args.file) c.read_certificate.result
    c.in_ok-bytes.ensures.held c.read_certificate.ensures.refused
