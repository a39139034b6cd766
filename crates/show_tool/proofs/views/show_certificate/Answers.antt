use Rattle.std.proofs.Common.{rules, Some}
use Rattle.fsmd_words.specs.AskedWords.{asked_of_ask}
use Rattle.fsmd_answers.specs.Refusing.{WhereAnswered}
use Rattle.fsmd_tool.specs.Calls.{call, IsCorrectFrom}
use Rattle.fsmd_answers.specs.Follows.{Ends, OpensPair, OpensCertificate}
use Rattle.fsmd_tool.proofs.FromFiles.{pair_refused, pair_spelled}
use Rattle.fsmd_tool.proofs.InOrder.{correct_of}
use Rattle.fsmd_tool.proofs.Later.{answers_since}
use Rattle.show_tool.specs.Views.{IsOfCertificate}
use Rattle.show_tool.proofs.views.show_certificate.Goals as goal

pub returns-in_err-left-clause-answers : goal.returns-in_err-left-clause-answers
returns-in_err-left-clause-answers g c =
    let h : WhereAnswered (IsCorrectFrom (OpensPair (λ a b. OpensCertificate a b (λ nodes. Ends (IsOfCertificate a b nodes)))) 0
    (call (Some (asked_of_ask c.args.ask.now)) (g.F.Files.told c.args.files.now) (g.F.Files.told c.load_pair.new.files))) c.in_err-left.field-0.0 =
    pair_refused (λ a b. OpensCertificate a b (λ nodes. Ends (IsOfCertificate a b nodes))) _ _ (correct_of _ _ _ _ c.in_err-left.ensures.refused) in
    search rules

pub returns-clause-answers : goal.returns-clause-answers
returns-clause-answers g c =
    pair_spelled (λ a b. OpensCertificate a b (λ nodes. Ends (IsOfCertificate a b nodes)))
    _ c.in_ok-left.field-0.left c.in_ok-left.field-0.right c.in_ok-left.ensures.left c.in_ok-left.ensures.right c.in_ok-left.ensures.alike
    c.show_certificate_of.result
    (answers_since _ _ _ _ c.load_pair.ensures.only_read _ 2 c.show_certificate_of.result c.show_certificate_of.ensures.answers)
