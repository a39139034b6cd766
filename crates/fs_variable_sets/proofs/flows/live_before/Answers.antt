use Rattle.std.proofs.lemmas.List.{get_or_default}
use Rattle.fs_variable_sets.proofs.Grows.{passed_on}
use Rattle.fs_variable_sets.proofs.flows.live_before.Goals as goal

pub returns-else-flow-reset : goal.returns-else-flow-reset
returns-else-flow-reset c =
    let flow = c.args.flow.now in
    let live = c.args.live.now in
    passed_on c.args.reset live flow _ c.without.result c.union.result c.if-flow-reset.false
    (get_or_default live flow.target _ (record { bits = 0 }) c.requires.inside.1) c.without.ensures c.union.ensures
