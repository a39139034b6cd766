use Rattle.std.proofs.Common.{◌<◌, ◌∙◌, ap, sym, arith, length}
use Rattle.hls_block_filling.specs.ItemUnits.{units_in}
use Rattle.hls_block_filling.specs.Over.{over_among}
use Rattle.hls_block_filling.proofs.Fitting.{none_unless, none_here}
use Rattle.hls_block_filling.proofs.over.over_in.Goals as goal

pub loop-q-preserved : goal.loop-q-preserved
loop-q-preserved c =
    let m = c.args.m.now in
    let units = units_in c.args.units.now in
    let low : c.loop-q.q < length m.states = omega (arith, c.loop-q-test.true, c.loop-q.invariant.all) in
    let none = sym (c.over_among.ensures ∙ ap (over_among units) c.branches.ensures.branches) ∙ none_unless c.over_among.result c.in_default.not-Some in
    record { all = c.loop-q.invariant.all; left = sym (none_here m units c.loop-q.q (length m.states) low none) ∙ c.loop-q.invariant.left }
