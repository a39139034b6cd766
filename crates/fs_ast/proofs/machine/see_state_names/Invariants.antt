use Rattle.std.proofs.Common.{◌≡◌, true, take}
use Rattle.std.specs.Prelude.{map}
use Rattle.std.specs.List.{list_all}
use Rattle.fs_model.specs.Words.{is_name}
use Rattle.fs_branches.specs.NumberedParts.{resolved_state}
use Rattle.fs_ast.proofs.machine.see_state_names.Given as goal

abbrev pub invariant-loop-state : goal.invariant-loop-state
invariant-loop-state l = list_all (λ s. is_name s.name) (map resolved_state (take l.state-index l.states)) ≡ true
