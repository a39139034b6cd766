use Rattle.std.proofs.Common.{◌≡◌, ◌-◌, length, map}
use Rattle.std.specs.List.{range_with_len}
use Rattle.hls_block_filling.specs.ItemUnits.{units_in}
use Rattle.hls_block_filling.specs.Over.{first_of, over_at, over_in}
use Rattle.hls_block_filling.proofs.over.over_in.Given as goal

abbrev pub invariant-loop-q : goal.invariant-loop-q
invariant-loop-q l = record {
  all : l.q-end ≡ length l.m.states;
  left : first_of (map (over_at (units_in l.units) l.m) (range_with_len l.q (length l.m.states - l.q))) ≡ over_in (units_in l.units) l.m;
}
