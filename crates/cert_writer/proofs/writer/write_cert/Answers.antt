use Rattle.std.proofs.Common.{map, ap, ◌∙◌}
use Rattle.serde_json.specs.View.{view}
use Rattle.fs_pair.specs.Positions.{positions}
use Rattle.cert_model.specs.View.{node_of}
use Rattle.cert_writer.specs.WrittenCertificates.{file_written}
use Rattle.cert_writer.proofs.Files.{text_is, is_file_of}
use Rattle.cert_writer.proofs.Lengths.{file_bound}
use Rattle.cert_writer.proofs.writer.write_cert.Goals as goal

pub returns-clause-bytes : goal.returns-clause-bytes
returns-clause-bytes c = text_is c.args.a.now c.args.b.now (positions c.args.a.now c.args.b.now)
    (map node_of c.args.c.now.nodes.items) c.in_ok-bytes.bytes.items (view c.in_ok-value.value)
    (c.in_ok-value.ensures.written ∙ ap (λ ps. file_written c.args.a.now c.args.b.now ps (map node_of c.args.c.now.nodes.items)) c.requires.paired)
    c.in_ok-bytes.ensures.text

pub returns-clause-file : goal.returns-clause-file
returns-clause-file c = is_file_of c.args.a.now c.args.b.now (positions c.args.a.now c.args.b.now)
    (map node_of c.args.c.now.nodes.items) c.requires.lawful c.in_ok-value.ensures.kept c.in_ok-bytes.bytes.items (view c.in_ok-value.value)
    (c.in_ok-value.ensures.written ∙ ap (λ ps. file_written c.args.a.now c.args.b.now ps (map node_of c.args.c.now.nodes.items)) c.requires.paired)
    c.in_ok-bytes.ensures.utf8 c.in_ok-bytes.ensures.reads_back

pub returns-clause-short : goal.returns-clause-short
returns-clause-short c = file_bound c.args.a.now c.args.b.now c.in_ok-value.ensures.left c.in_ok-value.ensures.right (positions c.args.a.now c.args.b.now)
    (map node_of c.args.c.now.nodes.items) c.in_ok-value.ensures.kept c.requires.lawful.ranks c.in_ok-bytes.bytes.items (returns-clause-bytes c)
