use Rattle.std.proofs.Common.{◌≡◌, ◌-◌, ◌++◌, map}
use Rattle.std.specs.List.{range_with_len}
use Rattle.fs_model.specs.SoundMachines.{branch_count}
use Rattle.fs_cut.specs.Covers.{path_by, paths_by}
use Rattle.fs_cut.specs.View.{point_of, path_of}
use Rattle.fs_cut.proofs.walk.paths.Given as goal

abbrev pub invariant-loop-branch : goal.invariant-loop-branch
invariant-loop-branch l = record {
  all : l.count ≡ branch_count l.m l.state.0;
  done : map path_of l.out.items ++ map (path_by l.m (point_of l.from) l.state.0) (range_with_len l.branch (branch_count l.m l.state.0 - l.branch))
      ≡ paths_by l.m (point_of l.from) l.state.0;
}
