use Rattle.std.proofs.Common.{◌≡◌, ◌++◌}
use Rattle.nf_vectors.proofs.copies.insert_copies.Given as goal

abbrev pub invariant-loop-place : goal.invariant-loop-place
invariant-loop-place l = record {
  rest : l.copy.entries ++ l.place-iterator ≡ l.forms.entries;
}
