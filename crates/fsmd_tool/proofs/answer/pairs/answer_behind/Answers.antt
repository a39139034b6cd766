use Rattle.fsmd_answers.specs.ComparisonAnswers.{IsOfPair}
use Rattle.fsmd_answers.specs.Follows.{Ends}
use Rattle.fsmd_tool.specs.Calls.{IsCorrectInOrder}
use Rattle.fsmd_tool.proofs.InOrder.{ended_in_order, made_answers}
use Rattle.fsmd_tool.proofs.Loads.{at_most_none}
use Rattle.fsmd_replies.specs.declared.answer.Answer.{Answer}
use Rattle.fsmd_tool.specs.declared.answer.pairs.PairCommand.TheVariants as commands
use Rattle.fsmd_tool.proofs.Answering.{answers_for, at_most_for}
use Rattle.fsmd_tool.proofs.answer.pairs.answer_behind.Goals as goal

pub returns-in-Check-clause-answers : goal.returns-in-Check-clause-answers
returns-in-Check-clause-answers g c =
    let own : Answer → Type 0 = IsOfPair c.in-Check.steps c.in-Check.keeps c.args.pair.now.left c.args.pair.now.right in
    answers_for (commands.Check c.in-Check.steps c.in-Check.keeps) _ _ _ c.made_answer.result c.in-Check.is
    (made_answers own (IsCorrectInOrder (Ends own) 2 _) (ended_in_order own 2 _ _) c.compare.result c.made_answer.result c.made_answer.ensures
    c.compare.ensures)

pub returns-in-Verify-clause-answers : goal.returns-in-Verify-clause-answers
returns-in-Verify-clause-answers g c = answers_for commands.Verify _ _ _ c.verify_from.result c.in-Verify.is c.verify_from.ensures.answers

pub returns-in-Replay-clause-answers : goal.returns-in-Replay-clause-answers
returns-in-Replay-clause-answers g c =
    answers_for (commands.Replay c.in-Replay.steps) _ _ _ c.replay_from.result c.in-Replay.is c.replay_from.ensures.answers

pub returns-in-Shrink-clause-answers : goal.returns-in-Shrink-clause-answers
returns-in-Shrink-clause-answers g c =
    answers_for (commands.Shrink c.in-Shrink.steps) _ _ _ c.shrink_from.result c.in-Shrink.is c.shrink_from.ensures.answers

pub returns-in-Check-clause-at_most : goal.returns-in-Check-clause-at_most
returns-in-Check-clause-at_most g c = at_most_none _ 2 _ _

pub returns-in-Verify-clause-at_most : goal.returns-in-Verify-clause-at_most
returns-in-Verify-clause-at_most g c = at_most_for commands.Verify _ _ _ c.in-Verify.is c.verify_from.ensures.at_most

pub returns-in-Replay-clause-at_most : goal.returns-in-Replay-clause-at_most
returns-in-Replay-clause-at_most g c = at_most_for (commands.Replay c.in-Replay.steps) _ _ _ c.in-Replay.is c.replay_from.ensures.at_most

pub returns-in-Shrink-clause-at_most : goal.returns-in-Shrink-clause-at_most
returns-in-Shrink-clause-at_most g c = at_most_for (commands.Shrink c.in-Shrink.steps) _ _ _ c.in-Shrink.is c.shrink_from.ensures.at_most

pub compare-requires-clause-steps : goal.compare-requires-clause-steps
compare-requires-clause-steps g c = rw c.in-Check.is at c.requires.steps

pub replay_from-requires-clause-steps : goal.replay_from-requires-clause-steps
replay_from-requires-clause-steps g c = rw c.in-Replay.is at c.requires.steps

pub shrink_from-requires-clause-steps : goal.shrink_from-requires-clause-steps
shrink_from-requires-clause-steps g c = rw c.in-Shrink.is at c.requires.steps
