use Rattle.std.proofs.Common.{◌≡◌, ℕ, ◌-◌, subst, arith, length}
use Rattle.hls_block_filling.specs.KnownHeights.{AreHeights, AreLowHeights}
use Rattle.hls_block_filling.proofs.Levels.{none_known, none_low}
use Rattle.hls_block_filling.proofs.heights.set_all.Goals as goal

pub loop-done-init : goal.loop-done-init
loop-done-init c = (c.requires.same, none_known c.args.effects.now c.args.heights.now, none_low (length c.args.effects.now) c.args.heights.now)

pub returns-clause-known : goal.returns-clause-known
returns-clause-known c =
    let e : length c.args.effects.now - c.loop-done.done ≡ 0 = omega (arith, c.loop-done-test.false) in
    subst (λ (z : ℕ). AreHeights c.args.effects.now z c.loop-done.heights) e c.loop-done.invariant.1

pub returns-clause-low : goal.returns-clause-low
returns-clause-low c =
    let e : length c.args.effects.now - c.loop-done.done ≡ 0 = omega (arith, c.loop-done-test.false) in
    subst (λ (z : ℕ). AreLowHeights (length c.args.effects.now) z c.loop-done.heights) e c.loop-done.invariant.2
