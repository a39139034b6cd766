use Rattle.std.proofs.Common.{◌∙◌, ap, map}
use Rattle.fs_model.specs.View.{assignment_of}
use Rattle.fs_rules.specs.MachineOfParts.{place_or_end, names_of}
use Rattle.fs_branches.proofs.Numbered.{assignments_numbered, if_ok}
use Rattle.fs_branches.proofs.resolve.shared_assignments.Goals as goal

pub returns : goal.returns
returns c =
    let number = place_or_end (names_of c.args.scope.now.vars.items) in
    let made = assignments_numbered number c.args.assigns.now c.in_ok-renamed_assignments.field-0.items c.in_ok-renamed_assignments.ensures in
    if_ok c.share.result (λ out e. ap (λ v. map assignment_of v.items) e ∙ made) c.share.ensures
