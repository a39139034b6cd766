use Rattle.std.proofs.Common.{refl}
use Rattle.std.proofs.lemmas.Bool.{and_parts}
use Rattle.nf_terms.specs.Normal.{is_light, narrow_inside}
use Rattle.term_writer.proofs.Deep.{shallow, shallow_array}
use Rattle.term_writer.proofs.Spelling.{polynomial_spells, array_spells}
use Rattle.term_writer.proofs.ListTexts.{list_spells, shallow_list}
use Rattle.term_writer.proofs.laws.written_terms_are_spelled.Goals as goal

pub returns-clause-polynomial : goal.returns-clause-polynomial
returns-clause-polynomial c = λ name find p h n. let l = and_parts (is_light p) (narrow_inside p) n.narrow in
    let e = polynomial_spells name find p h l.0 l.1 n.ordered in record { spelled = e; text = refl; shallow = shallow name p e n.shallow }

pub returns-clause-array : goal.returns-clause-array
returns-clause-array c = λ name find a h n. let e = array_spells name find a h n.narrow n.ordered in
    record { spelled = e; text = refl; shallow = shallow_array name a e n.shallow }

pub returns-clause-list : goal.returns-clause-list
returns-clause-list c = λ name find l h n. let e = list_spells name find l h n.items in
    record { spelled = e; text = refl; shallow = shallow_list name l e n.shallow }
