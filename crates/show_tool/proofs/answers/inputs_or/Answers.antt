use Rattle.show_tool.specs.Views.{Other}
use Rattle.show_tool.proofs.answers.inputs_or.Goals as goal

pub returns-in-Ok-None : goal.returns-in-Ok-None
returns-in-Ok-None c = Other c.requires.answer
