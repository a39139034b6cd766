use Rattle.std.proofs.Common.{◌≡◌, ◌++◌, drop}
use Rattle.std.specs.Prelude.{map}
use Rattle.fs_stores.specs.Values.{content_of}
use Rattle.fs_runs.specs.Outcomes.{outs_of}
use Rattle.fs_runs.proofs.run.outputs.Given as goal

abbrev pub invariant-loop-k : goal.invariant-loop-k
invariant-loop-k l = map content_of l.out.items ++ outs_of (drop l.k l.vars) (drop l.k l.values) ≡ outs_of l.vars l.values
