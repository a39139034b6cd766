use Rattle.std.proofs.Common.{◌≡◌, map, drop}
use Rattle.fs_cut.specs.Paths.{steps_by, steps_in}
use Rattle.fs_cut.specs.View.{path_of}
use Rattle.sym_paths.specs.Execution.{steps_over}
use Rattle.sym_paths.proofs.execution.take_steps.Given as goal

abbrev pub invariant-loop-state : goal.invariant-loop-state
invariant-loop-state l = record {
  rest : steps_over l.m l.side (steps_by l.number (map (λ s. s.0) (drop l.state-index l.path.states.items))) l.v
      ≡ steps_over l.m l.side (steps_in (path_of l.path)) l.initial.v;
}
