use Rattle.std.proofs.Common.{◌≡◌, take}
use Rattle.std.specs.Prelude.{map}
use Rattle.fs_model.specs.View.{assignment_by}
use Rattle.fs_model.specs.Renamed.{assignment_over}
use Rattle.fs_model.proofs.copies.renamed_assignments.Given as goal

abbrev pub invariant-loop-assign : goal.invariant-loop-assign
invariant-loop-assign g l = map (assignment_by (λ x. x)) l.out.items ≡ map (assignment_over (g.R.Rename.renamed l.by))
    (map (assignment_by (λ x. x)) (take l.assign-index l.assigns))
