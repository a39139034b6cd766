use Rattle.show_words.proofs.reading.read.Goals as goal

pub returns-in-machine-clause-ok : goal.returns-in-machine-clause-ok
returns-in-machine-clause-ok c = rw c.in-machine.is (c.show_or_refusal.ensures.ok _ c.machine.ensures)

pub returns-in-pair-clause-ok : goal.returns-in-pair-clause-ok
returns-in-pair-clause-ok c = rw c.in-pair.is (c.show_or_refusal-in-pair.ensures.ok _ c.pair.ensures)

pub returns-in-why-clause-ok : goal.returns-in-why-clause-ok
returns-in-why-clause-ok c = rw c.in-why.is (c.show_or_refusal-in-why.ensures.ok _ c.pair-in-why.ensures)

pub returns-in-certificate-clause-ok : goal.returns-in-certificate-clause-ok
returns-in-certificate-clause-ok c = rw c.in-certificate.is (c.show_or_refusal-in-certificate.ensures.ok _ c.certificate.ensures)

pub returns-in-inputs-clause-ok : goal.returns-in-inputs-clause-ok
returns-in-inputs-clause-ok c = rw c.in-inputs.is (c.show_or_refusal-in-inputs.ensures.ok _ c.pair-in-inputs.ensures)

pub returns-in-trace-clause-ok : goal.returns-in-trace-clause-ok
returns-in-trace-clause-ok c = rw c.in-trace.is (c.show_or_refusal-in-trace.ensures.ok _ c.trace.ensures)
