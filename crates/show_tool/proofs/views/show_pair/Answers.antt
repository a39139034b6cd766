use Rattle.std.proofs.Common.{rules, Some}
use Rattle.fsmd_words.specs.AskedWords.{asked_of_ask}
use Rattle.fsmd_answers.specs.Refusing.{WhereAnswered}
use Rattle.fsmd_tool.specs.Calls.{call, IsCorrectFrom}
use Rattle.std.specs.Prelude.{Ok}
use Rattle.show_tool.specs.Views.{IsOfPairView}
use Rattle.fsmd_answers.specs.Follows.{Ends, OpensPair}
use Rattle.fsmd_tool.proofs.FromFiles.{ended, pair_refused, pair_spelled}
use Rattle.fsmd_tool.proofs.InOrder.{correct_of, made_answers}
use Rattle.show_tool.proofs.views.show_pair.Goals as goal

pub returns-in_err-pair-clause-answers : goal.returns-in_err-pair-clause-answers
returns-in_err-pair-clause-answers g c =
    let h : WhereAnswered (IsCorrectFrom (OpensPair (λ a b. Ends (IsOfPairView c.args.view a b))) 0
    (call (Some (asked_of_ask c.args.ask.now)) (g.F.Files.told c.args.files.now) (g.F.Files.told c.load_pair.new.files))) c.in_err-pair.field-0.0 =
    pair_refused (λ a b. Ends (IsOfPairView c.args.view a b)) _ _ (correct_of _ _ _ _ c.in_err-pair.ensures.refused) in
    search rules

pub returns-clause-answers : goal.returns-clause-answers
returns-clause-answers g c =
    let a = c.in_ok-pair.pair.left in
    let b = c.in_ok-pair.pair.right in
    let Q = IsOfPairView c.args.view in
    let h = c.in_ok-pair.ensures in
    made_answers (Q a b) (IsCorrectFrom (OpensPair (λ a b. Ends (Q a b))) 0
    (call (Some (asked_of_ask c.args.ask.now)) (g.F.Files.told c.args.files.now) (g.F.Files.told c.load_pair.new.files)))
    (λ x p. pair_spelled (λ a b. Ends (Q a b)) _ a b h.left h.right h.alike (Ok x) (ended (Q a b) 2 _ x p)) c.answer_machines.result
    c.made_answer.result c.made_answer.ensures c.answer_machines.ensures
