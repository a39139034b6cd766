use Rattle.std.proofs.Common.{◌∙◌, ap, map}
use Rattle.fs_model.specs.Renamed.{assignment_over}
use Rattle.fs_model.specs.View.{named_assignment, source_transition_of}
use Rattle.hls_bind.specs.BindingEntries.{name_for}
use Rattle.hls_bind.proofs.Filled.{line_is}
use Rattle.hls_bind.proofs.renaming.renamed_transition.Goals as goal

pub returns : goal.returns
returns c =
    let f = name_for c.args.registers.now in
    let assigns = c.in_ok-assigns.ensures ∙ ap (λ xs. map (assignment_over f) (map named_assignment xs)) c.deref.ensures.value in
    line_is f (source_transition_of c.args.line.now) _ c.in_ok-target.target _ c.in_ok-renamed_condition.ensures c.in_ok-target.ensures assigns
