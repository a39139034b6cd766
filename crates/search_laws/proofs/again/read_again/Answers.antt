use Rattle.std.proofs.Common.{map}
use Rattle.cert_model.specs.View.{node_of}
use Rattle.search_laws.proofs.KnownNodes.{same, refused}
use Rattle.search_laws.proofs.again.read_again.Goals as goal

pub returns-clause-same : goal.returns-clause-same
returns-clause-same c =
    let a = c.args.a.now in
    let b = c.args.b.now in
    let bytes = c.in-Ok.bytes.items in
    let ns = map node_of c.args.c.now.nodes.items in
    same a b bytes c.deref.result.now ns c.deref.ensures.value
    (c.written_certificates_are_read.ensures a b bytes ns c.vars-left.ensures.sound c.vars-right.ensures.sound c.requires.lawful
    c.certificates_are_normal.ensures c.in-Ok.ensures.file)
    (c.certificates_are_read_in_one_way.ensures.same a b bytes) c.read_cert.result c.read_cert.ensures.spelled

pub returns-clause-refused : goal.returns-clause-refused
returns-clause-refused c =
    let a = c.args.a.now in
    let b = c.args.b.now in
    let bytes = c.in-Ok.bytes.items in
    let ns = map node_of c.args.c.now.nodes.items in
    refused a b bytes c.deref.result.now ns c.deref.ensures.value
    (c.written_certificates_are_read.ensures a b bytes ns c.vars-left.ensures.sound c.vars-right.ensures.sound c.requires.lawful
    c.certificates_are_normal.ensures c.in-Ok.ensures.file)
    (c.certificates_are_read_in_one_way.ensures.taken a b bytes) c.read_cert.result c.read_cert.ensures.refused
