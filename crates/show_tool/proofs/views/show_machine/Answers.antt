use Rattle.std.proofs.Common.{◌≡◌, ◌∙◌, rules, ap, Some, refl}
use Rattle.fsmd_words.specs.AskedWords.{asked_of_ask}
use Rattle.fsmd_answers.specs.Refusing.{WhereAnswered}
use Rattle.fsmd_tool.specs.Calls.{call, IsCorrectFrom}
use Rattle.fs_model.specs.Machines.{Fsmd}
use Rattle.show_machine_pictures.specs.Pictures.{picture_of}
use Rattle.fsmd_replies.specs.declared.answer.Answer.TheVariants.{Text}
use Rattle.fsmd_answers.specs.MachineFiles.{SpellsMachine}
use Rattle.fsmd_answers.specs.Refusals.{RefusesMachine}
use Rattle.fsmd_answers.specs.Follows.{Ends, OpensMachine}
use Rattle.fsmd_tool.proofs.FromFiles.{machine_held, refused_as, spelled_last}
use Rattle.show_tool.proofs.views.show_machine.Goals as goal

pub returns-in_err-machine-clause-answers : goal.returns-in_err-machine-clause-answers
returns-in_err-machine-clause-answers g c =
    let h : WhereAnswered (IsCorrectFrom (OpensMachine (λ m. Ends (λ answer. answer ≡ Text (picture_of m)))) 0
    (call (Some (asked_of_ask c.args.ask.now)) (g.F.Files.told c.args.files.now) (g.F.Files.told c.load.new.files))) c.in_err-machine.field-0.0 =
    refused_as Fsmd RefusesMachine SpellsMachine (λ m. Ends (λ answer. answer ≡ Text (picture_of m))) 0 _ _ c.in_err-machine.ensures.refused in
    search rules

pub returns-clause-answers : goal.returns-clause-answers
returns-clause-answers g c =
    spelled_last Fsmd RefusesMachine SpellsMachine (λ m answer. answer ≡ Text (picture_of m)) 0 _ c.in_ok-machine.field-0.machine _
    (machine_held _ _ _ _ refl c.in_ok-machine.ensures.loaded)
    (ap Text (c.of-lines.ensures ∙ c.in_ok-picture_of.ensures))
