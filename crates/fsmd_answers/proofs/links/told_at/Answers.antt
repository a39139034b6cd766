use Rattle.std.proofs.Common.{ap₂}
use Rattle.fsmd_replies.specs.declared.answer.Answer.TheVariants.{Link}
use Rattle.fsmd_answers.proofs.links.told_at.Goals as goal

pub returns-in-Ok : goal.returns-in-Ok
returns-in-Ok c = ap₂ Link c.status.ensures c.in-Ok.ensures
