use Rattle.std.proofs.Common.{◌≡◌, refl}
use Rattle.fs_model.specs.Machines.{Fsmd}
use Rattle.fs_cut.specs.PathTexts.{paths_text}
use Rattle.fsmd_replies.specs.declared.answer.Answer.TheVariants.{Text}
use Rattle.fsmd_answers.specs.MachineFiles.{SpellsMachine}
use Rattle.fsmd_answers.specs.Refusals.{RefusesMachine}
use Rattle.fsmd_answers.specs.Follows.{Ends}
use Rattle.fsmd_tool.proofs.FromFiles.{machine_held}
use Rattle.fsmd_tool.proofs.InOrder.{passed_on, refused_in_order, made_last}
use Rattle.fsmd_tool.proofs.answer.machines.cut_paths.Goals as goal

pub returns-in_err-loaded-clause-answers : goal.returns-in_err-loaded-clause-answers
returns-in_err-loaded-clause-answers g c =
    passed_on _ c.from_residual.result _ c.from_residual.ensures.1
    (refused_in_order Fsmd RefusesMachine SpellsMachine (λ m. Ends (λ answer. answer ≡ Text (paths_text m))) 0 _ _ c.load.ensures.loads
    c.in_err-loaded.ensures.refused)

pub returns-clause-answers : goal.returns-clause-answers
returns-clause-answers g c =
    made_last Fsmd RefusesMachine SpellsMachine (λ m answer. answer ≡ Text (paths_text m)) 0 _ c.in_ok-loaded.loaded.machine c.load.ensures.loads
    (machine_held _ _ _ _ refl c.in_ok-loaded.ensures.loaded) c.text_of_paths.result c.made_answer.result c.made_answer.ensures c.text_of_paths.ensures
