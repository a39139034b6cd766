-- Sets of states that are closed backwards.
use Rattle.std.specs.Prelude.{◌≡◌, ◌≢◌, ℕ, ◌<◌, Bool, true, false}
use Rattle.fs_model.specs.Machines.{Fsmd}
use Rattle.fs_model.specs.SoundMachines.{branch_count}
use Rattle.fs_cut.specs.Paths.{branch_at, target_of}
use Rattle.hls_bind.specs.Liveness.{reads, writes}

-- a set has each state of which a branch reads x, and each of which a branch leads into it without writing x or returning
pub record IsClosedUnderFlow (m : Fsmd) (x : ℕ) (set : ℕ → Bool) : Type 0 where
  pub reading : (q k : ℕ) → k < branch_count m q → reads x (branch_at m q k) ≡ true → set q ≡ true
  pub passing : (q k : ℕ) → k < branch_count m q → writes x (branch_at m q k) ≡ false → target_of m q k ≢ m.reset
      → set (target_of m q k) ≡ true → set q ≡ true
