use Rattle.std.proofs.Common.{◌≡◌}
use Rattle.fs_model.specs.Source.{Source}
use Rattle.fs_model.specs.View.{source_of}
use Rattle.fs_write.specs.Canonical.{canonical}
use Rattle.fsmd_replies.specs.declared.answer.Answer.TheVariants.{Text}
use Rattle.fsmd_answers.specs.MachineFiles.{SpellsParts}
use Rattle.fsmd_answers.specs.Refusals.{RefusesMachine}
use Rattle.fsmd_answers.specs.Follows.{Ends}
use Rattle.fsmd_tool.proofs.FromFiles.{parts_held}
use Rattle.fsmd_tool.proofs.InOrder.{passed_on, refused_in_order, made_last}
use Rattle.fsmd_tool.proofs.answer.machines.format_text.Goals as goal

pub returns-in_err-loaded-clause-answers : goal.returns-in_err-loaded-clause-answers
returns-in_err-loaded-clause-answers g c =
    passed_on _ c.from_residual.result _ c.from_residual.ensures.1
    (refused_in_order Source RefusesMachine SpellsParts (λ parts. Ends (λ answer. answer ≡ Text (canonical parts))) 0 _ _ c.load.ensures.loads
    c.in_err-loaded.ensures.refused)

pub returns-clause-answers : goal.returns-clause-answers
returns-clause-answers g c =
    made_last Source RefusesMachine SpellsParts (λ parts answer. answer ≡ Text (canonical parts)) 0 _ (source_of c.in_ok-loaded.loaded.parts)
    c.load.ensures.loads
    (parts_held _ _ _ c.in_ok-loaded.ensures.loaded) c.canonical_text.result c.made_answer.result c.made_answer.ensures c.canonical_text.ensures
