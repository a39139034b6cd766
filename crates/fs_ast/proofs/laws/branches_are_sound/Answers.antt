use Rattle.fs_ast.proofs.Lifted.{branch_sound}
use Rattle.fs_ast.proofs.laws.branches_are_sound.Goals as goal

pub returns : goal.returns
returns c = λ m q k b s e. branch_sound m s q k b e
