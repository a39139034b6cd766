use Rattle.std.proofs.Common.{◌≡◌, drop}
use Rattle.std.specs.Prelude.{map}
use Rattle.fs_rules.specs.FirstFault.{earliest}
use Rattle.fs_branches.specs.NumberedParts.{state_with_line}
use Rattle.fs_ast.specs.Shapes.{endless_faults}
use Rattle.fs_ast.proofs.shape_rules.note_endless.Given as goal

abbrev pub invariant-loop-place : goal.invariant-loop-place
invariant-loop-place l = earliest l.faults.first (endless_faults (map state_with_line l.states) (drop l.place-index l.endless))
    ≡ earliest l.initial.faults.first (endless_faults (map state_with_line l.states) l.endless)
