use Rattle.fs_cut.proofs.Listed.{path_is}
use Rattle.fs_cut.proofs.Legs.{path_exists, one_path, path_down, path_up}
use Rattle.fs_cut.proofs.laws.runs_go_along_paths.Goals as goal

pub returns-clause-branch : goal.returns-clause-branch
returns-clause-branch c = path_is

pub returns-clause-some : goal.returns-clause-some
returns-clause-some c = λ m P s sound. path_exists m sound P s

pub returns-clause-one : goal.returns-clause-one
returns-clause-one c = λ m p r s sound. one_path m sound p r s

pub returns-clause-down : goal.returns-clause-down
returns-clause-down c = λ m p n s t sound. path_down m sound p n s t

pub returns-clause-up : goal.returns-clause-up
returns-clause-up c = λ m p n s t sound. path_up m sound p n s t
