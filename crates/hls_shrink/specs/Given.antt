-- What a machine's inputs are given.
use Rattle.std.specs.Prelude.{Bool, not, ◌&&◌, List, map, filter}
use Rattle.std.specs.List.{list_all}
use Rattle.fs_model.specs.Machines.{Fsmd}
use Rattle.fs_model.specs.Runs.{Inputs, Content, is_input, is_port}
use Rattle.fs_stores.specs.InputValues.{first_content}

-- what each input of a machine holds as a run starts, in order of declaration: a scalar its number, an array its numbers, by name
abbrev pub given_contents : Fsmd → Inputs → List Content
given_contents m ins = map (first_content ins) (filter (λ v. is_input v.role) m.variables)

-- whether no input of a machine is a port
abbrev pub has_no_input_port : Fsmd → Bool
has_no_input_port m = list_all (λ v. not (is_input v.role && is_port v.sort)) m.variables
