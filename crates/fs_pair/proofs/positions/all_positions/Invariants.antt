use Rattle.std.proofs.Common.{◌≡◌, take, map}
use Rattle.fs_pair.specs.Positions.{position_of}
use Rattle.fs_pair.specs.View.{sided_variable_of}
use Rattle.fs_pair.proofs.positions.all_positions.Given as goal

abbrev pub invariant-loop-member : goal.invariant-loop-member
invariant-loop-member l = l.out.items ≡ map (position_of (map sided_variable_of l.members)) (map sided_variable_of (take l.member-index l.members))
