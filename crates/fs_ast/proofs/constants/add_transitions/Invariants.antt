use Rattle.std.proofs.Common.{◌≡◌, ◌++◌, take}
use Rattle.std.specs.Prelude.{map}
use Rattle.fs_model.specs.SoundMachines.{numbers_in_transitions}
use Rattle.fs_branches.specs.NumberedParts.{resolved_transition}
use Rattle.fs_ast.proofs.constants.add_transitions.Given as goal

abbrev pub invariant-loop-line : goal.invariant-loop-line
invariant-loop-line l = l.out.items ≡ l.initial.out.items ++ numbers_in_transitions (map resolved_transition (take l.line-index l.lines))
