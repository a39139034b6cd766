use Rattle.std.proofs.Common.{◌≡◌, map, drop}
use Rattle.fs_model.specs.View.{assignment_of}
use Rattle.sym_paths.specs.View.{change_in}
use Rattle.sym_paths.specs.Sequences.{each}
use Rattle.sym_paths.specs.Evaluation.{evaluate_assignment}
use Rattle.sym_paths.proofs.Loops.{followed}
use Rattle.sym_paths.proofs.assignments.evaluate_assignments.Given as goal

abbrev pub invariant-loop-assignment : goal.invariant-loop-assignment
invariant-loop-assignment l = record {
  rest : followed (map change_in l.out.items) (each (λ x. evaluate_assignment l.side l.v x) (map assignment_of (drop l.assignment-index l.assignments)))
      ≡ each (λ x. evaluate_assignment l.side l.v x) (map assignment_of l.assignments);
}
