use Rattle.fs_model.proofs.Passing.{branches_pass}
use Rattle.fs_model.proofs.laws.branches_pass_as_transitions_do.Goals as goal

pub returns : goal.returns
returns c = λ T C S ls same h. branches_pass T same C S ls h
