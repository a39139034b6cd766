use Rattle.alike_searches.proofs.EvenPaths.{same_conditions}
use Rattle.alike_searches.proofs.path_laws.alike_paths_have_the_same_conditions.Goals as goal

pub returns : goal.returns
returns c = λ a b pairs p q v same even. same_conditions a b v even pairs p q same
