use Rattle.std.proofs.Common.{◌∙◌, ap}
use Rattle.fsmd_replies.specs.declared.answer.Answer.TheVariants.{Text}
use Rattle.fsmd_tool.proofs.answer.machines.canonical_text.Goals as goal

pub returns-in-Ok : goal.returns-in-Ok
returns-in-Ok c = ap Text (c.of.ensures ∙ c.in-Ok.ensures.text)
