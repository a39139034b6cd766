use Rattle.std.proofs.Common.{◌∙◌, ap, ap₂, ◌+◌, sym, map, arith}
use Rattle.std.proofs.lemmas.List.{take_all}
use Rattle.fs_model.specs.SoundMachines.{emit_count}
use Rattle.fs_model.specs.View.{named_assignment}
use Rattle.fs_rules.proofs.Uses.{emits_more}
use Rattle.fs_rules.proofs.rules.emit_count.Goals as goal

pub loop-assign-preserved : goal.loop-assign-preserved
loop-assign-preserved c =
    let more = emits_more named_assignment c.args.assigns.now c.loop-assign.assign-index c.assign-item.result c.loop-assign-test.true c.assign-item.is in
    let one = c.emits_of-count.ensures in
    let before = c.loop-assign.invariant in
    record { count = ap₂ (λ a b. a + b) before.count one.emits ∙ sym more; few = omega arith }

pub returns : goal.returns
returns c =
    c.loop-assign.invariant.count
    ∙ ap (λ xs. emit_count (map named_assignment xs)) (take_all c.loop-assign.assign-index c.args.assigns.now c.loop-assign-test.false)
