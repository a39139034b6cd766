use Rattle.std.proofs.Common.{◌∙◌, ap}
use Rattle.fsmd_replies.specs.declared.answer.Answer.TheVariants.{Text}
use Rattle.fsmd_tool.proofs.answer.machines.text_of_paths.Goals as goal

pub returns : goal.returns
returns c = ap Text (c.of-lines.ensures ∙ c.in_ok-list_paths.ensures)
