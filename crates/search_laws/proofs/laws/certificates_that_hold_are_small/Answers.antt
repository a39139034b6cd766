use Rattle.search_laws.proofs.Small.{small}
use Rattle.search_laws.proofs.laws.certificates_that_hold_are_small.Goals as goal

pub returns : goal.returns
returns c = λ a b nodes h. small a b nodes h (c.texts_of_certificates_are_files.ensures.short a b nodes h.left_sound h.right_sound h.lawful h.normal)
