use Rattle.std.proofs.Common.{◌≡◌, ◌-◌, ◌++◌, length, map}
use Rattle.std.specs.List.{range_with_len}
use Rattle.fs_cut.specs.View.{path_of}
use Rattle.fs_cut.proofs.Listed.{paths_at}
use Rattle.fs_cut.proofs.make_cover.all_forks.Given as goal

abbrev pub invariant-loop-state : goal.invariant-loop-state
invariant-loop-state l = record {
  all : l.state-end ≡ length l.m.states;
  done : map (λ ps. map path_of ps.items) l.out.items ++ map (paths_at l.m) (range_with_len l.state (length l.m.states - l.state))
      ≡ map (paths_at l.m) (range_with_len 0 (length l.m.states));
}
