use Rattle.search_laws.proofs.Small.{closed_holds, small}
use Rattle.search_laws.proofs.laws.certificates_of_closed_searches_are_small.Goals as goal

pub returns : goal.returns
returns c = λ a b nodes h. small a b nodes (closed_holds a b nodes h)
    (c.texts_of_certificates_are_files.ensures.short a b nodes h.left_sound h.right_sound h.lawful h.normal)
