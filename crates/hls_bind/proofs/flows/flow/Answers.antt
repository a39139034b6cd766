use Rattle.std.proofs.Common.{◌∙◌, ap, map}
use Rattle.std.specs.List.{flat_map}
use Rattle.fs_model.specs.View.{shared_literal_of, assignment_of, branch_of}
use Rattle.fs_model.specs.PartFolds.{scalars, uses_in_literal}
use Rattle.fs_variable_sets.specs.Sets.{has_variable, also_all}
use Rattle.hls_bind.specs.Liveness.{read_by_assignment}
use Rattle.hls_bind.specs.BranchFlows.{has_below_128}
use Rattle.hls_bind.proofs.Loops.{transfer_is}
use Rattle.hls_bind.proofs.flows.flow.Goals as goal

pub returns : goal.returns
returns c =
    let lits = c.read_by_literals.ensures ∙ ap (λ ls. has_below_128 (flat_map (uses_in_literal scalars) (map shared_literal_of ls))) c.deref.ensures.value in
    let assigns = c.with_assignments.ensures
    ∙ ap (λ xs. also_all (flat_map read_by_assignment (map assignment_of xs)) (has_variable c.read_by_literals.result))
    (c.as_slice.ensures.value ∙ ap (λ v. v.items) c.deref-2.ensures) in
    transfer_is c.args.from (branch_of c.args.branch.now) (has_variable c.read_by_literals.result) (has_variable c.with_assignments.result)
    (has_variable c.assigned_scalars.result) lits assigns c.assigned_scalars.ensures
