use Rattle.std.proofs.Common.{◌≡◌, ◌+◌, ◌≤◌, map, drop}
use Rattle.std.specs.Prelude.{Some, None}
use Rattle.fs_cut.specs.View.{path_of}
use Rattle.cert_model.specs.View.{node_of}
use Rattle.cert_check.specs.Progress.{progress_from}
use Rattle.cert_check.specs.View.{move_in}
use Rattle.cert_check.proofs.moves.left_moves.Given as goal

abbrev pub invariant-loop-left : goal.invariant-loop-left
invariant-loop-left l = record {
  low : l.number ≤ l.first + l.left-index;
  rest : progress_from l.number (map (λ p. move_in l.table (node_of l.node) (Some p) None) (map path_of (drop l.left-index l.lefts)))
      ≡ progress_from l.first (map (λ p. move_in l.table (node_of l.node) (Some p) None) (map path_of l.lefts));
}
