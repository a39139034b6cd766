use Rattle.fs_grammar.proofs.Exact.{read_is_spelled}
use Rattle.fs_grammar.proofs.laws.what_is_read_is_spelled.Goals as goal

pub returns : goal.returns
returns c = λ s ts e. read_is_spelled s ts e
