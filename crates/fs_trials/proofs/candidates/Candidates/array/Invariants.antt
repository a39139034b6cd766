use Rattle.std.proofs.Common.{◌≡◌, ℤ}
use Rattle.fs_stores.specs.Values.{entry_number}
use Rattle.fs_trials.specs.Candidates.{candidate, array_of}
use Rattle.fs_trials.proofs.candidates.Candidates.array.Given as goal

abbrev pub invariant-loop-i : goal.invariant-loop-i
invariant-loop-i l = (x : ℤ) → entry_number l.entries x ≡ array_of ((candidate l.self.pool.items l.j).number l.k) (candidate l.self.pool.items l.j).filled l.i x
