use Rattle.std.proofs.Common.{All}
use Rattle.fs_variable_sets.specs.Flows.{IsFixedPoint}
use Rattle.std.proofs.Common.{subst}
use Rattle.std.proofs.lemmas.List.{take_all}
use Rattle.fs_variable_sets.proofs.Grows.{turned}
use Rattle.fs_variable_sets.proofs.flows.round.Goals.{then-grow, else-grow}
use Rattle.fs_variable_sets.proofs.flows.round.Goals as goal

pub loop-flow-preserved : goal.loop-flow-preserved
loop-flow-preserved c =
    elim c.if-grow.branch [
      | then-grow w ↦ turned c.args.flows.now c.args.reset c.args.live.now.items c.loop-flow.live.items c.grow.new.live.items c.loop-flow.flow-index _
          c.loop-flow-test.true c.requires.inside c.grow.ensures.count c.grow.ensures.stepped c.loop-flow.changed c.grow.result c.if-grow.changed
          c.loop-flow.invariant c.grow.ensures.settled c.grow.ensures.grows (λ e. w.changed-is) (λ e. absurd (cc (e, w.if-grow.true)))
      | else-grow w ↦ turned c.args.flows.now c.args.reset c.args.live.now.items c.loop-flow.live.items c.grow.new.live.items c.loop-flow.flow-index _
          c.loop-flow-test.true c.requires.inside c.grow.ensures.count c.grow.ensures.stepped c.loop-flow.changed c.grow.result c.if-grow.changed
          c.loop-flow.invariant c.grow.ensures.settled c.grow.ensures.grows (λ e. absurd (cc (e, w.if-grow.false))) (λ e. w.changed-is)
    ]

pub returns-clause-settled : goal.returns-clause-settled
returns-clause-settled c = λ e.
    let x = c.loop-flow.invariant.1 e in
    (x.0, subst (λ fs. All (IsFixedPoint c.args.reset c.args.live.now.items) fs) (take_all c.loop-flow.flow-index c.args.flows.now c.loop-flow-test.false) x.1)
