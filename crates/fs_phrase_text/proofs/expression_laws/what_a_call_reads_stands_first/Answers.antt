use Rattle.fs_phrase_text.proofs.Called.{sum_stands, guard_stands}
use Rattle.fs_phrase_text.proofs.expression_laws.what_a_call_reads_stands_first.Goals as goal

pub returns-clause-sums : goal.returns-clause-sums
returns-clause-sums c = λ s ts behind t q h. sum_stands s ts behind t q h

pub returns-clause-guards : goal.returns-clause-guards
returns-clause-guards c = λ g ts behind t q h. guard_stands g ts behind t q h
