use Rattle.std.proofs.Common.{◌≡◌, ◌+◌, ◌≤◌, map, drop, option_map}
use Rattle.std.specs.Prelude.{Some}
use Rattle.fs_cut.specs.View.{path_of}
use Rattle.cert_model.specs.View.{node_of}
use Rattle.cert_check.specs.Progress.{progress_from}
use Rattle.cert_check.specs.View.{move_in}
use Rattle.cert_check.proofs.moves.right_moves.Given as goal

abbrev pub invariant-loop-right : goal.invariant-loop-right
invariant-loop-right l = record {
  low : l.number ≤ l.first + l.right-index;
  rest : progress_from l.number
      (map (λ p. move_in l.table (node_of l.node) (option_map (λ q. path_of q.now) l.left) (Some p)) (map path_of (drop l.right-index l.rights)))
      ≡ progress_from l.first (map (λ p. move_in l.table (node_of l.node) (option_map (λ q. path_of q.now) l.left) (Some p)) (map path_of l.rights));
}
