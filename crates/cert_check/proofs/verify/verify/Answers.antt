use Rattle.std.proofs.Common.{◌≡◌, map, ap, sym, ◌∙◌}
use Rattle.sym_facts.specs.Starts.{start_fact}
use Rattle.cert_model.specs.Obligations.{verdict, obligations}
use Rattle.cert_model.specs.View.{node_of}
use Rattle.cert_check.specs.Progress.{verdict_of}
use Rattle.cert_check.specs.View.{verdict_in}
use Rattle.cert_check.proofs.Steps.{verdict_reached}
use Rattle.cert_check.proofs.verify.verify.Goals as goal

pub returns-clause-verdict : goal.returns-clause-verdict
returns-clause-verdict c =
    c.verdict.ensures ∙ ap verdict_of c.in_ok-check.ensures
    ∙ verdict_reached 1 (obligations c.args.a.now c.args.b.now (start_fact c.args.p.now) (map node_of c.as_slice.result.now))
    ∙ ap (λ ns. verdict c.args.a.now c.args.b.now (start_fact c.args.p.now) (map node_of ns)) c.as_slice.ensures.value

pub returns-clause-same : goal.returns-clause-same
returns-clause-same c = λ e.
    let nodes = map node_of c.args.c.now.nodes.items in
    let yes : verdict c.args.a.now c.args.b.now (start_fact c.args.p.now) nodes ≡ verdict_in c.verdict.result = sym (returns-clause-verdict c) in
    c.obligations_give_same_behaviour.ensures c.args.a.now c.args.b.now c.vars-left.ensures.sound c.vars-right.ensures.sound c.requires.interface nodes
    c.requires.lawful
    (ap (λ ps. verdict c.args.a.now c.args.b.now (start_fact ps) nodes) (sym c.requires.paired) ∙ yes ∙ ap verdict_in e)
