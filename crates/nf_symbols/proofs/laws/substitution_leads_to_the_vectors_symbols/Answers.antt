use Rattle.nf_symbols.proofs.Substituted.{polynomial_over, array_term_over, list_over}
use Rattle.nf_symbols.proofs.laws.substitution_leads_to_the_vectors_symbols.Goals as goal

pub returns-clause-numbers : goal.returns-clause-numbers
returns-clause-numbers c = λ from to v p r leads h e. polynomial_over from to v leads p r h e

pub returns-clause-arrays : goal.returns-clause-arrays
returns-clause-arrays c = λ from to v a b leads h e. array_term_over from to v leads a b h e

pub returns-clause-lists : goal.returns-clause-lists
returns-clause-lists c = λ from to v l m leads h e. list_over from to v leads l m h e
