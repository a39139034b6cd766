use Rattle.std.proofs.Common.{◌≡◌, ℕ, ◌+◌, ◌-◌, ◌<◌, subst, arith, length}
use Rattle.std.specs.Prelude.{slice_set}
use Rattle.hls_block_filling.specs.KnownHeights.{AreHeights, AreLowHeights}
use Rattle.hls_block_filling.proofs.Levels.{set_known, set_low}
use Rattle.hls_block_filling.proofs.heights.set_next.Goals as goal

pub height-found-requires-clause-low : goal.height-found-requires-clause-low
height-found-requires-clause-low c =
    let e : length c.args.effects.now - c.args.done ≡ length c.args.effects.now - 1 - c.args.done + 1 = omega (arith, c.requires.in_range) in
    subst (λ (z : ℕ). AreLowHeights (length c.args.effects.now) z c.args.heights.now) e c.requires.low

pub returns-clause-known : goal.returns-clause-known
returns-clause-known c =
    let e : length c.args.effects.now - c.args.done ≡ length c.args.effects.now - 1 - c.args.done + 1 = omega (arith, c.requires.in_range) in
    let d : length c.args.effects.now - 1 - c.args.done ≡ length c.args.effects.now - (c.args.done + 1) = omega arith in
    let l : length c.args.effects.now - 1 - c.args.done < length c.args.heights.now = omega (arith, c.requires.in_range, c.requires.same) in
    subst (λ (z : ℕ). AreHeights c.args.effects.now z (slice_set c.args.heights.now (length c.args.effects.now - 1 - c.args.done) c.height-found.result)) d
    (set_known c.args.effects.now c.args.heights.now (length c.args.effects.now - 1 - c.args.done) c.height-found.result l c.height-found.ensures.height
    (subst (λ (z : ℕ). AreHeights c.args.effects.now z c.args.heights.now) e c.requires.known))

pub returns-clause-low : goal.returns-clause-low
returns-clause-low c =
    let e : length c.args.effects.now - c.args.done ≡ length c.args.effects.now - 1 - c.args.done + 1 = omega (arith, c.requires.in_range) in
    let d : length c.args.effects.now - 1 - c.args.done ≡ length c.args.effects.now - (c.args.done + 1) = omega arith in
    let l : length c.args.effects.now - 1 - c.args.done < length c.args.heights.now = omega (arith, c.requires.in_range, c.requires.same) in
    subst
    (λ (z : ℕ). AreLowHeights (length c.args.effects.now) z (slice_set c.args.heights.now (length c.args.effects.now - 1 - c.args.done) c.height-found.result))
    d
    (set_low c.args.heights.now (length c.args.effects.now) (length c.args.effects.now - 1 - c.args.done) c.height-found.result l c.height-found.ensures.low
    (subst (λ (z : ℕ). AreLowHeights (length c.args.effects.now) z c.args.heights.now) e c.requires.low))
