use Rattle.std.proofs.Common.{◌≡◌, ◌+◌, ◌*◌, ◌≤◌, map, drop}
use Rattle.std.specs.List.{flat_map}
use Rattle.std.specs.Prelude.{Some}
use Rattle.fs_model.specs.Limits.{most_branches}
use Rattle.fs_cut.specs.View.{path_of}
use Rattle.cert_model.specs.View.{node_of}
use Rattle.cert_check.specs.Progress.{progress_from}
use Rattle.cert_check.specs.View.{move_in}
use Rattle.cert_check.proofs.moves.move_pairs.Given as goal

abbrev pub invariant-loop-left : goal.invariant-loop-left
invariant-loop-left l = record {
  low : l.number ≤ l.first + most_branches * l.left-index;
  rest : progress_from l.number
      (flat_map (λ p. map (λ q. move_in l.table (node_of l.node) (Some p) (Some q)) (map path_of l.rights)) (map path_of (drop l.left-index l.lefts)))
      ≡ progress_from l.first (flat_map (λ p. map (λ q. move_in l.table (node_of l.node) (Some p) (Some q)) (map path_of l.rights)) (map path_of l.lefts));
}
