use Rattle.std.proofs.Common.{◌≡◌, true, take}
use Rattle.std.specs.List.{list_all}
use Rattle.fs_model.specs.Words.{is_name}
use Rattle.fs_ast.proofs.machine.see_variable_names.Given as goal

abbrev pub invariant-loop-var : goal.invariant-loop-var
invariant-loop-var l = list_all (λ v. is_name v.name) (take l.var-index l.vars) ≡ true
