use Rattle.std.proofs.Common.{◌≡◌, map, ap, ◌∙◌}
use Rattle.sym_facts.specs.Starts.{start_fact}
use Rattle.cert_model.specs.Obligations.{verdict, verdict_on}
use Rattle.cert_model.specs.View.{node_of}
use Rattle.cert_check.specs.View.{verdict_in}
use Rattle.fsmd_pair_answers.specs.Verdicts.{answer_to, IsJudged}
use Rattle.fsmd_pair_answers.proofs.Judged.{yes_is, if_ok}
use Rattle.fsmd_pair_answers.proofs.judge.judge.Goals as goal

pub returns-in-Ok : goal.returns-in-Ok
returns-in-Ok c =
    let a = c.args.a.now in
    let b = c.args.b.now in
    let nodes = map node_of c.args.cert.now.nodes.items in
    let v = c.in-Ok.verdict in
    let said : verdict_in v ≡ verdict_on a b nodes = c.in-Ok.ensures.verdict ∙ ap (λ q. verdict a b (start_fact q) nodes) c.requires.paired in
    if_ok (λ answer. answer ≡ answer_to a b (verdict_in v)) (IsJudged a b nodes) c.answer_to.result
    (λ answer is. record { is = is ∙ ap (answer_to a b) said; same = λ e. c.in-Ok.ensures.same (yes_is v (said ∙ e)) }) c.answer_to.ensures
