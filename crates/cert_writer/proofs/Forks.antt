-- Points at states.
use Rattle.std.proofs.Common.{◌≡◌, ℕ, ◌<◌, true, length}
use Rattle.fs_model.specs.Machines.{Fsmd}
use Rattle.fs_cut.specs.Paths.{At, is_point}
use Rattle.fs_cut.proofs.Listed.{fork_state}

-- a point at a state is at one of the machine's
pub state_there : (m : Fsmd) (q : ℕ) → is_point m (At q) ≡ true → q < length m.states
state_there = fork_state
