use Rattle.term_values.proofs.reader.read_seq.Goals as goal

pub returns-clause-read : goal.returns-clause-read
returns-clause-read g c = c.normal_list.ensures.read c.args.bytes.now c.in_ok-written.ensures.found

pub returns-clause-refused : goal.returns-clause-refused
returns-clause-refused g c = c.normal_list.ensures.refused c.args.bytes.now c.in_ok-written.ensures.found
