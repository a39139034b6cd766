use Rattle.std.proofs.Common.{◌≡◌, ◌≤◌, map, drop}
use Rattle.fs_cut.specs.View.{path_of}
use Rattle.propagate.specs.Modes.{count_from}
use Rattle.propagate.proofs.modes.count_open.Given as goal

abbrev pub invariant-loop-path : goal.invariant-loop-path
invariant-loop-path l = record {
  few : l.count ≤ l.path-index;
  rest : count_from l.m l.side l.fact (map path_of (drop l.path-index l.paths)) l.count ≡ count_from l.m l.side l.fact (map path_of l.paths) 0;
}
