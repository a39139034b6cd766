use Rattle.std.proofs.Common.{◌≡◌, ◌+◌, ◌≤◌, map, drop}
use Rattle.sym_entailment.specs.Outcomes.{way_in}
use Rattle.cert_model.specs.View.{node_of}
use Rattle.cert_check.specs.Progress.{progress_from}
use Rattle.cert_check.specs.View.{ways_in}
use Rattle.cert_check.proofs.moves.right_ways.Given as goal

abbrev pub invariant-loop-right : goal.invariant-loop-right
invariant-loop-right l = record {
  low : l.number ≤ l.first + l.right-index;
  rest : progress_from l.number
      (map (λ w. ways_in l.table (node_of l.node) (way_in l.left) w) (map way_in (drop l.right-index l.rights)))
      ≡ progress_from l.first (map (λ w. ways_in l.table (node_of l.node) (way_in l.left) w) (map way_in l.rights));
}
