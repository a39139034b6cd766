use Rattle.std.proofs.Common.{map}
use Rattle.cert_model.specs.View.{node_of}
use Rattle.hls_shrink.proofs.Stopped.{name_hold, name_stop}
use Rattle.hls_shrink.proofs.chain.judge_link.Goals as goal

pub returns-clause-holds : goal.returns-clause-holds
returns-clause-holds c =
    name_hold c.args.last.now c.args.next.now (map node_of c.args.c.now.nodes.items) c.check_link.result c.check_link.ensures.holds

pub returns-clause-stop : goal.returns-clause-stop
returns-clause-stop c =
    name_stop c.args.last.now c.args.next.now (map node_of c.args.c.now.nodes.items) c.check_link.result c.check_link.ensures.stop
