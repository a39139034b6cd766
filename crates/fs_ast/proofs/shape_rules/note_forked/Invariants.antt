use Rattle.std.proofs.Common.{◌≡◌, drop}
use Rattle.std.specs.Prelude.{map}
use Rattle.fs_rules.specs.FirstFault.{earliest}
use Rattle.fs_branches.specs.NumberedParts.{state_with_line}
use Rattle.fs_ast.specs.Shapes.{forked_faults}
use Rattle.fs_ast.proofs.shape_rules.note_forked.Given as goal

abbrev pub invariant-loop-state : goal.invariant-loop-state
invariant-loop-state l = earliest l.faults.first (forked_faults (map state_with_line (drop l.state-index l.states)))
    ≡ earliest l.initial.faults.first (forked_faults (map state_with_line l.states))
