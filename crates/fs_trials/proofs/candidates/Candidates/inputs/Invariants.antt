use Rattle.std.proofs.Common.{◌≡◌}
use Rattle.std.specs.Prelude.{map}
use Rattle.fs_stores.specs.Values.{content_of}
use Rattle.fs_stores.specs.InputValues.{input_values, signatures_of, input_signatures, Serves}
use Rattle.fs_trials.specs.Candidates.{candidate}
use Rattle.fs_trials.proofs.Given.{AreGiven}
use Rattle.fs_trials.proofs.candidates.Candidates.inputs.Given as goal

abbrev pub invariant-loop-k : goal.invariant-loop-k
invariant-loop-k l = record {
  signatures : signatures_of l.inputs ≡ input_signatures l.m.variables;
  serves : Serves (signatures_of l.inputs) l.m;
  done : AreGiven (candidate l.self.pool.items l.j) l.k (map content_of (input_values l.inputs)) (input_signatures l.m.variables);
}
