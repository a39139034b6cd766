use Rattle.std.proofs.Common.{rules, ◌≡◌, Some, ap, subst, ◌∙◌}
use Rattle.fs_ast.specs.StoredBranches.{state_name_of}
use Rattle.hls_unit_counts.specs.Counts.{units_in}
use Rattle.hls_block_filling.specs.Over.{over_in}
use Rattle.fsmd_replies.specs.declared.answer.Answer.TheVariants.{Over}
use Rattle.fsmd_replies.specs.AskedFiles.{operand}
use Rattle.fsmd_answers.specs.ScheduleFiles.{IsOver}
use Rattle.fsmd_answers.proofs.schedules.schedule_machine.Goals as goal

pub returns-in_ok-name-in-Err-Over : goal.returns-in_ok-name-in-Err-Over
returns-in_ok-name-in-Err-Over c =
    let units = units_in c.args.units.now in
    let m = c.args.machine.now in
    let q = c.in-Err-Over.state.0 in
    let k = c.in-Err-Over.unit in
    let first : over_in units m ≡ Some (q, k) = rw c.in-Err-Over.field-0-is at c.in-Err-Over.ensures.refused in
    let named : c.of-in-Err-Over.result ≡ state_name_of m q = search rules in
    let spelled = c.requires.spelled in
    IsOver q k (subst (λ n. over_in units n ≡ Some (q, k)) spelled first) (ap (λ name. Over (operand 1) name k) (named ∙ ap (λ n. state_name_of n q) spelled))
