use Rattle.std.proofs.Common.{map, subst, ap, ◌∙◌}
use Rattle.std.specs.Result.{IfErr}
use Rattle.sym_facts.specs.Starts.{start_fact}
use Rattle.cert_model.specs.Obligations.{verdict}
use Rattle.cert_model.specs.View.{node_of}
use Rattle.hls_shrink.specs.ChainStops.{IsStopOf}
use Rattle.hls_shrink.proofs.chain.check_link.Goals as goal

pub returns-clause-stop : goal.returns-clause-stop
returns-clause-stop c =
    let nodes = map node_of c.args.c.now.nodes.items in
    subst (λ v. IfErr c.where_yes.result (IsStopOf v))
    (c.in_ok-verify.ensures.verdict ∙ ap (λ q. verdict c.args.last.now c.args.next.now (start_fact q) nodes) c.requires.paired) c.where_yes.ensures.stop
