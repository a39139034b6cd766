use Rattle.std.proofs.Common.{◌≡◌, ◌+◌, ◌≤◌, map, drop}
use Rattle.fs_pair.specs.PairedOutputs.{output_pairs}
use Rattle.cert_check.specs.Progress.{progress_from}
use Rattle.cert_check.specs.VectorOutputs.{output_over}
use Rattle.cert_check.proofs.outputs.outputs.Given as goal

abbrev pub invariant-loop-variable : goal.invariant-loop-variable
invariant-loop-variable l = record {
  counted : l.left ≡ l.variable-index;
  low : l.number ≤ l.first + l.variable-index;
  rest : progress_from l.number (map (output_over l.v) (output_pairs l.left (drop l.variable-index l.lefts) l.rights))
      ≡ progress_from l.first (map (output_over l.v) (output_pairs 0 l.lefts l.rights));
}
