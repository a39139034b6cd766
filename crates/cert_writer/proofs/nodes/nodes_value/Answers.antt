use Rattle.cert_model.specs.View.{node_of}
use Rattle.cert_writer.specs.WrittenCertificates.{node_written}
use Rattle.cert_writer.proofs.Values.{nodes_are}
use Rattle.cert_writer.proofs.nodes.nodes_value.Goals as goal

pub returns-clause-written : goal.returns-clause-written
returns-clause-written c = nodes_are (node_written c.args.names.now.a.now c.args.names.now.b.now) node_of c.loop-node.out c.args.nodes.now
    c.loop-node.node-index c.loop-node-test.false c.loop-node.invariant.written
