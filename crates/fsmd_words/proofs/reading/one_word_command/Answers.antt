use Rattle.fsmd_words.proofs.reading.one_word_command.Goals as goal

pub returns-in-fmt-clause-ok : goal.returns-in-fmt-clause-ok
returns-in-fmt-clause-ok c = rw c.in-fmt.is (c.ask_or_refusal.ensures.ok _ c.fmt.ensures)

pub returns-in-cuts-clause-ok : goal.returns-in-cuts-clause-ok
returns-in-cuts-clause-ok c = rw c.in-cuts.is (c.ask_or_refusal-in-cuts.ensures.ok _ c.cuts.ensures)

pub returns-in-compile-clause-ok : goal.returns-in-compile-clause-ok
returns-in-compile-clause-ok c = rw c.in-compile.is (c.ask_or_refusal-in-compile.ensures.ok _ c.compile.ensures)
