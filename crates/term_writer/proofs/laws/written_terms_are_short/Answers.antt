use Rattle.nf_terms.specs.Normal.{is_light, narrow_inside}
use Rattle.term_writer.proofs.Bound.{polynomial_bound, array_bound}
use Rattle.term_writer.proofs.ListTexts.{list_bound}
use Rattle.term_writer.proofs.laws.written_terms_are_short.Goals as goal
use Rattle.std.proofs.lemmas.Bool.{and_parts}

pub returns-clause-polynomial : goal.returns-clause-polynomial
returns-clause-polynomial c = λ name p h n. let l = and_parts (is_light p) (narrow_inside p) n.narrow in polynomial_bound name p h l.0 l.1

pub returns-clause-array : goal.returns-clause-array
returns-clause-array c = λ name a h n. array_bound name a h n.narrow

pub returns-clause-list : goal.returns-clause-list
returns-clause-list c = λ name l h n. list_bound name l h n.items
