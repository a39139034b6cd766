use Rattle.fsmd_words.proofs.reading.ask_of_command.Goals as goal

pub returns-in-check-clause-ok : goal.returns-in-check-clause-ok
returns-in-check-clause-ok c = rw c.in-check.is (c.ask_or_refusal.ensures.ok _ c.check.ensures)

pub returns-in-verify-clause-ok : goal.returns-in-verify-clause-ok
returns-in-verify-clause-ok c = rw c.in-verify.is (c.ask_or_refusal-in-verify.ensures.ok _ c.verify.ensures)

pub returns-in-run-clause-ok : goal.returns-in-run-clause-ok
returns-in-run-clause-ok c = rw c.in-run.is (c.ask_or_refusal-in-run.ensures.ok _ c.run.ensures)

pub returns-in-replay-clause-ok : goal.returns-in-replay-clause-ok
returns-in-replay-clause-ok c = rw c.in-replay.is (c.ask_or_refusal-in-replay.ensures.ok _ c.replay.ensures)
