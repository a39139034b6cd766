use Rattle.nf_terms.specs.Normal.{is_light, narrow_inside}
use Rattle.term_writer.proofs.Back.{polynomial_back, array_back}
use Rattle.term_writer.proofs.ListTexts.{list_back}
use Rattle.term_writer.proofs.laws.written_terms_mean_themselves.Goals as goal
use Rattle.std.proofs.lemmas.Bool.{and_parts}

pub returns-clause-polynomial : goal.returns-clause-polynomial
returns-clause-polynomial c = λ name find p h n. let l = and_parts (is_light p) (narrow_inside p) n.narrow in polynomial_back name find p h l.0 l.1

pub returns-clause-array : goal.returns-clause-array
returns-clause-array c = λ name find a h n. array_back name find a h n.narrow

pub returns-clause-list : goal.returns-clause-list
returns-clause-list c = λ name find l h n. list_back name find l h n.items
