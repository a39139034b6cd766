use Rattle.fsmd_words.proofs.reading.last_command.Goals as goal

pub returns-in-schedule-clause-ok : goal.returns-in-schedule-clause-ok
returns-in-schedule-clause-ok c = rw c.in-schedule.is (c.ask_or_refusal.ensures.ok _ c.schedule.ensures)

pub returns-in-bind-clause-ok : goal.returns-in-bind-clause-ok
returns-in-bind-clause-ok c = rw c.in-bind.is (c.ask_or_refusal-in-bind.ensures.ok _ c.bind.ensures)

pub returns-in-shrink-clause-ok : goal.returns-in-shrink-clause-ok
returns-in-shrink-clause-ok c = rw c.in-shrink.is (c.ask_or_refusal-in-shrink.ensures.ok _ c.shrink.ensures)

pub returns-in-chain-clause-ok : goal.returns-in-chain-clause-ok
returns-in-chain-clause-ok c = rw c.in-chain.is (c.ask_or_refusal-in-chain.ensures.ok _ c.chain.ensures)
