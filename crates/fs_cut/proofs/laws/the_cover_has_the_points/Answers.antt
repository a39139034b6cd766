use Rattle.std.specs.List.{range_with_len}
use Rattle.std.proofs.Common.{length}
use Rattle.fs_cut.specs.Covers.{paths_of, points_of}
use Rattle.fs_cut.proofs.Listed.{points_are, all_points, points_listed, passes_end, point_state}
use Rattle.fs_cut.specs.Paths.{target_of, state_of}
use Rattle.fs_cut.proofs.laws.the_cover_has_the_points.Goals as goal

pub returns-clause-in_order : goal.returns-clause-in_order
returns-clause-in_order c = λ m. points_are (paths_of m) (points_of m)

pub returns-clause-points : goal.returns-clause-points
returns-clause-points c = λ m. all_points m (range_with_len 0 (length m.states))

pub returns-clause-all : goal.returns-clause-all
returns-clause-all c = points_listed

pub returns-clause-ends : goal.returns-clause-ends
returns-clause-ends c = λ m p v. passes_end m v.rest (target_of m (state_of m p.from) p.branch) p.to v.passes

pub returns-clause-states : goal.returns-clause-states
returns-clause-states c = point_state
