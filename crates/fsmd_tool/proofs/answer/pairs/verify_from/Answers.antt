use Rattle.std.specs.Prelude.{List, map}
use Rattle.cert_bisimulation.specs.Tables.{Node}
use Rattle.sym_facts.specs.Facts.{Fact}
use Rattle.cert_model.specs.View.{node_of}
use Rattle.fsmd_answers.specs.Refusals.{RefusesCertificate, SpellsCertificate}
use Rattle.fsmd_answers.specs.Verdicts.{IsJudged}
use Rattle.fsmd_answers.specs.Follows.{Ends}
use Rattle.fsmd_tool.proofs.InOrder.{passed_on, refused_in_order, made_last}
use Rattle.fsmd_tool.proofs.answer.pairs.verify_from.Goals as goal

pub returns-in_err-cert-clause-answers : goal.returns-in_err-cert-clause-answers
returns-in_err-cert-clause-answers g c =
    passed_on _ c.from_residual.result _ c.from_residual.ensures.1
    (refused_in_order (List (Node Fact)) (RefusesCertificate c.args.pair.now.left c.args.pair.now.right)
    (SpellsCertificate c.args.pair.now.left c.args.pair.now.right)
    (λ v. Ends (IsJudged c.args.pair.now.left c.args.pair.now.right v)) 2 _ _ c.load_certificate.ensures.loads c.in_err-cert.ensures.refused)

pub returns-clause-answers : goal.returns-clause-answers
returns-clause-answers g c = made_last (List (Node Fact)) (RefusesCertificate c.args.pair.now.left c.args.pair.now.right)
    (SpellsCertificate c.args.pair.now.left c.args.pair.now.right) (IsJudged c.args.pair.now.left c.args.pair.now.right) 2 _
    (map node_of c.in_ok-cert.cert.nodes.items)
    c.load_certificate.ensures.loads c.in_ok-cert.ensures.spells c.judge.result c.made_answer.result c.made_answer.ensures c.judge.ensures

pub judge-requires-clause-lawful : goal.judge-requires-clause-lawful
judge-requires-clause-lawful g c = c.in_ok-cert.ensures.spells.meet.lawful
