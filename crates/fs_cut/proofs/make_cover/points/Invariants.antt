use Rattle.std.proofs.Common.{◌≡◌, ◌++◌, length, map}
use Rattle.fs_cut.specs.Covers.{points_of}
use Rattle.fs_cut.specs.View.{point_of}
use Rattle.fs_cut.proofs.Loops.{points_left}
use Rattle.fs_cut.proofs.make_cover.points.Given as goal

abbrev pub invariant-loop-state : goal.invariant-loop-state
invariant-loop-state l = record {
  all : l.state-end ≡ length l.m.states;
  done : map point_of l.out.items ++ points_left l.m l.state (length l.m.states) ≡ points_of l.m;
}
