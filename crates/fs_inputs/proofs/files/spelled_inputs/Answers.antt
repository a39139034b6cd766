use Rattle.std.proofs.Common.{ap, ◌∙◌}
use Rattle.serde_json.specs.View.{members_view}
use Rattle.fs_inputs.specs.Steps.{inputs_over}
use Rattle.fs_inputs.proofs.Steps.{over_zero}
use Rattle.fs_inputs.proofs.files.spelled_inputs.Goals as goal

pub returns-clause-inputs : goal.returns-clause-inputs
returns-clause-inputs c =
    let ms = members_view c.args.members.now.entries in
    c.in_ok-give_all.ensures.given ∙ (ap (λ ins. inputs_over ins ms) c.in_ok-inputs.ensures.zero ∙ over_zero ms)
