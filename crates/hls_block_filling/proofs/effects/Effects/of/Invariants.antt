use Rattle.std.proofs.Common.{◌≡◌, map, drop}
use Rattle.fs_model.specs.View.{assignment_of}
use Rattle.hls_block_filling.specs.EffectSets.{sets_of, sets_from, none_changed}
use Rattle.hls_block_filling.proofs.effects.Effects.of.Given as goal

abbrev pub invariant-loop-assign : goal.invariant-loop-assign
invariant-loop-assign l = sets_from (map assignment_of (drop l.assign-index l.assigns)) (sets_of l.effects)
    ≡ sets_from (map assignment_of l.assigns) none_changed
