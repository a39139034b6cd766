use Rattle.alike_searches.proofs.OtherPaths.{others_clash}
use Rattle.alike_searches.proofs.path_laws.paths_of_other_numbers_clash.Goals as goal

pub returns : goal.returns
returns c = λ a b pairs P Q p q v ls ms sound. others_clash a b sound pairs P Q p q v ls ms
