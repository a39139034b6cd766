use Rattle.std.proofs.Common.{◌∙◌, ◌<◌, sym, ap, subst, length}
use Rattle.std.specs.Prelude.{map}
use Rattle.std.specs.List.{slice_index_or}
use Rattle.fs_model.specs.Machines.{State, transitions_of}
use Rattle.fs_model.specs.Trees.{branches_of}
use Rattle.fs_model.specs.View.{branch_of}
use Rattle.fs_ast.specs.declared.machine.StoredMachine.{StoredMachine}
use Rattle.fs_branches.specs.NumberedParts.{resolved_state}
use Rattle.fs_ast.proofs.Numbers.{same_at}
use Rattle.fs_ast.proofs.Kept.{no_state}
use Rattle.fs_ast.proofs.machine.Machine.branches.Goals as goal

pub returns-clause-branches : goal.returns-clause-branches
returns-clause-branches c =
    let m = c.self.inside.stored.value in
    let q = c.args.s.0 in
    let states = map resolved_state m.states.items in
    let low : q < length states = subst (λ x. q < length x.states) (sym c.self.view_is) c.requires in
    ap (map branch_of) c.as_slice.ensures.value
    ∙ same_at (λ b. map branch_of b.items) (λ (s : State). branches_of s.transitions) m.branches.items states c.self.invariant.branched q c.index.result.now
    no_state
    low (c.index.ensures ∙ ap (λ (x : StoredMachine). slice_index_or x.branches.items q c.index.result.now) c.deref.ensures)
    ∙ ap (λ x. branches_of (transitions_of x q)) c.self.view_is
