use Rattle.std.proofs.Common.{◌≡◌}
use Rattle.std.specs.Prelude.{map}
use Rattle.std.specs.List.{flat_map, range_with_len}
use Rattle.fs_model.specs.View.{source_state_of}
use Rattle.fs_generated.specs.Sides.{round_of}
use Rattle.fs_generated.proofs.states.states.Given as goal

abbrev pub invariant-loop-k : goal.invariant-loop-k
invariant-loop-k l = map source_state_of l.out.items ≡ flat_map (round_of l.side) (range_with_len 0 l.k)
