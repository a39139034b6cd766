use Rattle.nf_symbols.proofs.Agreement.{value_same, array_same, list_same}
use Rattle.nf_symbols.proofs.laws.symbols_decide_the_meaning.Goals as goal

pub returns-clause-numbers : goal.returns-clause-numbers
returns-clause-numbers c = λ test v w p agree h. value_same test v w agree p h

pub returns-clause-arrays : goal.returns-clause-arrays
returns-clause-arrays c = λ test v w a agree h. array_same test v w agree a h

pub returns-clause-lists : goal.returns-clause-lists
returns-clause-lists c = λ test v w l agree h. list_same test v w agree l h
