use Rattle.std.proofs.Common.{rules, Some}
use Rattle.fsmd_words.specs.AskedWords.{asked_of_ask}
use Rattle.fsmd_answers.specs.Refusing.{WhereAnswered}
use Rattle.fsmd_tool.specs.Calls.{call, IsCorrectFrom}
use Rattle.std.specs.Prelude.{List, map}
use Rattle.cert_bisimulation.specs.Tables.{Node}
use Rattle.sym_facts.specs.Facts.{Fact}
use Rattle.cert_model.specs.View.{node_of}
use Rattle.fsmd_answers.specs.Refusals.{RefusesCertificate, SpellsCertificate}
use Rattle.fsmd_answers.specs.Follows.{Ends, OpensCertificate}
use Rattle.fsmd_tool.proofs.FromFiles.{refused_as, spelled_last}
use Rattle.fsmd_tool.proofs.InOrder.{made_answers}
use Rattle.show_tool.specs.Views.{IsOfCertificate}
use Rattle.show_tool.proofs.views.show_certificate_of.Goals as goal

pub returns-in_err-cert-clause-answers : goal.returns-in_err-cert-clause-answers
returns-in_err-cert-clause-answers g c =
    let h : WhereAnswered (IsCorrectFrom (OpensCertificate c.args.left.now c.args.right.now (λ v. Ends (IsOfCertificate c.args.left.now c.args.right.now v))) 2
    (call (Some (asked_of_ask c.args.ask.now)) (g.F.Files.told c.args.files.now) (g.F.Files.told c.load_certificate.new.files))) c.in_err-cert.field-0.0 =
    refused_as (List (Node Fact)) (RefusesCertificate c.args.left.now c.args.right.now) (SpellsCertificate c.args.left.now c.args.right.now)
    (λ v. Ends (IsOfCertificate c.args.left.now c.args.right.now v)) 2 _ _ c.in_err-cert.ensures.refused in
    search rules

pub returns-clause-answers : goal.returns-clause-answers
returns-clause-answers g c =
    let a = c.args.left.now in
    let b = c.args.right.now in
    let nodes = map node_of c.in_ok-cert.cert.nodes.items in
    made_answers (IsOfCertificate a b nodes) (IsCorrectFrom (OpensCertificate a b (λ v. Ends (IsOfCertificate a b v))) 2
    (call (Some (asked_of_ask c.args.ask.now)) (g.F.Files.told c.args.files.now) (g.F.Files.told c.load_certificate.new.files)))
    (λ x p. spelled_last (List (Node Fact)) (RefusesCertificate a b) (SpellsCertificate a b) (IsOfCertificate a b) 2 _ nodes x
    c.in_ok-cert.ensures.spells p) c.certificate_of.result c.made_answer.result c.made_answer.ensures c.certificate_of.ensures

pub certificate_of-requires-clause-lawful : goal.certificate_of-requires-clause-lawful
certificate_of-requires-clause-lawful g c = c.in_ok-cert.ensures.spells.meet.lawful
