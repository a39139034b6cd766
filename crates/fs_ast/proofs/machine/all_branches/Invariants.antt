use Rattle.std.proofs.Common.{◌≡◌, take}
use Rattle.std.specs.Prelude.{map}
use Rattle.fs_model.specs.Trees.{branches_of}
use Rattle.fs_model.specs.View.{branch_of}
use Rattle.fs_branches.specs.NumberedParts.{resolved_state}
use Rattle.fs_ast.proofs.machine.all_branches.Given as goal

abbrev pub invariant-loop-state : goal.invariant-loop-state
invariant-loop-state l = map (λ b. map branch_of b.items) l.out.items ≡ map (λ s. branches_of s.transitions) (map resolved_state (take l.state-index l.states))
