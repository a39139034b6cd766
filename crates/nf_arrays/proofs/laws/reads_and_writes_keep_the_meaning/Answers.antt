use Rattle.nf_arrays.proofs.Values.{read_value, write_value}
use Rattle.nf_arrays.proofs.laws.reads_and_writes_keep_the_meaning.Goals as goal

pub returns-clause-read : goal.returns-clause-read
returns-clause-read c = read_value

pub returns-clause-write : goal.returns-clause-write
returns-clause-write c = write_value
