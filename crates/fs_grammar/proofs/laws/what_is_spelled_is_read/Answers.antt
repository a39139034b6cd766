use Rattle.fs_grammar.proofs.Exact.{spelled_is_read}
use Rattle.fs_grammar.proofs.laws.what_is_spelled_is_read.Goals as goal

pub returns : goal.returns
returns c = λ s ts h. spelled_is_read s ts h
