use Rattle.std.proofs.Common.{subst, false}
use Rattle.fsmd_answers.specs.ComparisonAnswers.{IsOfPair}
use Rattle.show_tool.specs.Views.{Other}
use Rattle.show_tool.proofs.answers.differing_machines.Goals as goal

pub returns-in_default : goal.returns-in_default
returns-in_default c = Other c.in_ok-answer.ensures

pub inputs_or-requires-clause-answer : goal.inputs_or-requires-clause-answer
inputs_or-requires-clause-answer c = subst (IsOfPair 10000 false c.args.pair.now.left c.args.pair.now.right) c.in-Differs.is c.in_ok-answer.ensures
