use Rattle.std.proofs.Common.{rules, map}
use Rattle.std.specs.Result.{IfErr}
use Rattle.cert_model.specs.View.{node_of}
use Rattle.hls_shrink.specs.ChainStops.{HoldOn, StopsOn}
use Rattle.hls_shrink.proofs.Stopped.{say_hold, say_stop}
use Rattle.hls_shrink.proofs.chain.Chain.add.Goals as goal

pub returns-in_err-judge_link-clause-verdict : goal.returns-in_err-judge_link-clause-verdict
returns-in_err-judge_link-clause-verdict c =
    let stops : IfErr c.from_residual.result (StopsOn c.args.self.last c.args.next (map node_of c.args.c.now.nodes.items)) = search rules in
    say_stop c.args.self.last c.args.next (map node_of c.args.c.now.nodes.items) c.from_residual.result stops

pub returns-clause-holds : goal.returns-clause-holds
returns-clause-holds c =
    let hold : HoldOn c.args.self.last c.args.next (map node_of c.args.c.now.nodes.items) = search rules in
    say_hold c.args.self.last c.args.next (map node_of c.args.c.now.nodes.items) hold
