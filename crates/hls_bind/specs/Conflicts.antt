-- Branches that lose one of two locals with one register.
use Rattle.std.specs.Prelude.{◌≡◌, ◌≢◌, ℕ, ◌<◌, ◌==◌, nat_lt, Bool, true, false, ◌&&◌, ◌||◌, ◌⊎◌, List, Some}
use Rattle.fs_model.specs.Machines.{Fsmd}
use Rattle.fs_model.specs.SoundMachines.{branch_count}
use Rattle.fs_cut.specs.Paths.{branch_at, target_of}
use Rattle.hls_bind.specs.Liveness.{writes, IsLive}
use Rattle.hls_bind.specs.Bindings.{register}

-- a branch of a state by its number, and two locals of which it writes the first
pub record Conflict : Type 0 where
  pub state : ℕ
  pub branch : ℕ
  pub written : ℕ
  pub other : ℕ

-- the two locals have one register, and the branch writes the first
pub record IsShared (b : List (ℕ × List ℕ)) (m : Fsmd) (c : Conflict) : Type 0 where
  pub numbered : c.branch < branch_count m c.state
  pub shared : List ℕ
  pub written_in : register b c.written ≡ Some shared
  pub other_in : register b c.other ≡ Some shared
  pub differ : c.written ≢ c.other
  pub writes : writes c.written (branch_at m c.state c.branch) ≡ true

-- it writes the other too
pub record IsTwice (b : List (ℕ × List ℕ)) (m : Fsmd) (c : Conflict) : Type 0 where
  pub shared : IsShared b m c
  pub both : writes c.other (branch_at m c.state c.branch) ≡ true

-- the other is live where the branch leads, which isn't the reset state
pub record Clobbers (b : List (ℕ × List ℕ)) (m : Fsmd) (c : Conflict) : Type 0 where
  pub shared : IsShared b m c
  pub goes_on : target_of m c.state c.branch ≢ m.reset
  pub live : IsLive m c.other (target_of m c.state c.branch)

abbrev pub IsConflict : List (ℕ × List ℕ) → Fsmd → Conflict → Type 0
IsConflict b m c = IsTwice b m c ⊎ Clobbers b m c

-- by state, then by branch, then by the written local, then by the other
abbrev pub conflict_is_before : Conflict → Conflict → Bool
conflict_is_before c d =
    nat_lt c.state d.state
    || (c.state == d.state
    && (nat_lt c.branch d.branch
    || (c.branch == d.branch && (nat_lt c.written d.written || (c.written == d.written && nat_lt c.other d.other)))))

-- the conflict that is named; one that is both counts as twice
pub record IsFirstConflict (b : List (ℕ × List ℕ)) (m : Fsmd) (c : Conflict) (twice : Bool) : Type 0 where
  pub conflict : IsConflict b m c
  pub first : (d : Conflict) → IsConflict b m d → conflict_is_before d c ≡ false
  pub is_twice : twice ≡ true → IsTwice b m c
  pub not_twice : twice ≡ false → IsTwice b m c → ⊥
