use Rattle.std.proofs.Common.{map, sym, ◌∙◌, arith}
use Rattle.std.specs.List.{position_from}
use Rattle.sym_facts.specs.PositionSets.{is_unsolved_in}
use Rattle.sym_facts.specs.View.{position_in, set_in}
use Rattle.sym_facts.proofs.Walks.{passes_here, passes_later}
use Rattle.sym_facts.proofs.parts.first_unsolved_in.Goals as goal

pub returns-then-is_unsolved : goal.returns-then-is_unsolved
returns-then-is_unsolved c =
    let xs = c.args.positions.now in
    let test = is_unsolved_in (set_in c.args.mentioned.now) in
    passes_here test xs c.loop-place.place c.index-positions-place.result (position_from test 0 (map position_in xs))
    (omega (arith, c.loop-place-test.true)) c.index-positions-place.is c.loop-place.invariant (sym c.is_unsolved.ensures ∙ c.if-is_unsolved.true)

pub loop-place-preserved : goal.loop-place-preserved
loop-place-preserved c =
    let xs = c.args.positions.now in
    let test = is_unsolved_in (set_in c.args.mentioned.now) in
    passes_later test xs c.loop-place.place c.index-positions-place.result (position_from test 0 (map position_in xs))
    (omega (arith, c.loop-place-test.true)) c.index-positions-place.is c.loop-place.invariant (sym c.is_unsolved.ensures ∙ c.if-is_unsolved.false)
