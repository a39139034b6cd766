use Rattle.std.proofs.Common.{◌≡◌, ◌+◌, ◌≤◌, map, drop}
use Rattle.fs_model.specs.View.{assignment_of}
use Rattle.hls_block_filling.specs.ItemUnits.{used_by}
use Rattle.hls_block_filling.specs.Profiles.{capped_count}
use Rattle.hls_block_filling.proofs.uses.used_by.Given as goal

abbrev pub invariant-loop-assign : goal.invariant-loop-assign
invariant-loop-assign l =
    (capped_count (l.used + used_by (map assignment_of (drop l.assign-index l.assigns)) l.kind) ≡ capped_count (used_by (map assignment_of l.assigns) l.kind))
    × (l.used ≤ 18446744073709551615)
