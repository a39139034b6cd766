use Rattle.std.proofs.Common.{◌≡◌, ℕ, Some, length}
use Rattle.std.specs.Prelude.{slice_get}
use Rattle.std.specs.List.{slice_index_or}
use Rattle.hls_block_filling.specs.declared.profiles.Profile.{Profile}
use Rattle.hls_block_filling.proofs.plan.profiles.Given as goal

abbrev pub invariant-loop-i : goal.invariant-loop-i
invariant-loop-i l =
    (length l.table.items ≡ l.i)
    × ((i : ℕ) (p : Profile) → slice_get l.table.items i ≡ Some p → slice_get l.effects i ≡ Some p.effects)
    × ((i : ℕ) (p : Profile) → slice_get l.table.items i ≡ Some p → slice_index_or l.heights i 0 ≡ p.height)
    × ((i : ℕ) (p : Profile) → slice_get l.table.items i ≡ Some p → slice_get l.uses i ≡ Some p.uses)
