use Rattle.std.proofs.Common.{ℕ, ◌<◌}
use Rattle.fs_trials.specs.Differences.{DiffersAt}
use Rattle.fs_trials.proofs.differences.first_difference_among.Given as goal

abbrev pub invariant-loop-j : goal.invariant-loop-j
invariant-loop-j l = (i : ℕ) → i < l.j → ¬ DiffersAt l.a l.b l.steps i
