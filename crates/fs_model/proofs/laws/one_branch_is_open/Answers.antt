use Rattle.fs_model.proofs.Leaves.{one_leaf_open}
use Rattle.fs_model.proofs.laws.one_branch_is_open.Goals as goal

pub returns : goal.returns
returns c = one_leaf_open
