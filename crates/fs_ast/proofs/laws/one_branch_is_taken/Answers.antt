use Rattle.fs_model.specs.Machines.{transitions_of}
use Rattle.fs_ast.proofs.Opens.{takes_one}
use Rattle.fs_ast.proofs.laws.one_branch_is_taken.Goals as goal

pub returns : goal.returns
returns c = λ m q s sound h. takes_one (transitions_of m q) s (sound.open_last q h)
