-- A machine with registers in place of some locals, over the numbers of its variables.
use Rattle.std.specs.Prelude.{◌≡◌, ◌≢◌, ℕ, ◌<◌, Bool, true, false, List, map, slice_get}
use Rattle.fs_model.specs.Machines.{Fsmd, State}
use Rattle.fs_model.specs.Stores.{Store}
use Rattle.fs_model.specs.Runs.{output}
use Rattle.fs_model.specs.Renamed.{transition_over}
use Rattle.fs_model.specs.SoundMachines.{branch_count}
use Rattle.fs_cut.specs.Paths.{branch_at, target_of}
use Rattle.hls_bind.specs.Liveness.{writes, IsLive}
use Rattle.hls_bind.specs.Bindings.{is_scalar_local}

-- the same state over other numbers of variables
abbrev pub state_over : (ℕ → ℕ) → State → State
state_over f s = record { name = s.name; transitions = map (transition_over f (λ q. q)) s.transitions }

-- two stores that hold the same for each variable that isn't bound
pub record Agree (f : ℕ → ℕ) (bound : ℕ → Bool) (s t : Store) : Type 0 where
  pub scalars : (x : ℕ) → bound x ≡ false → s.scalar x ≡ t.scalar (f x)
  pub arrays : (x : ℕ) → bound x ≡ false → s.array x ≡ t.array (f x)
  pub ports : (x : ℕ) → bound x ≡ false → s.port x ≡ t.port (f x)

-- f gives each variable of m its number in k; only variables that are bound share one
pub record IsBoundBy (f : ℕ → ℕ) (bound : ℕ → Bool) (m k : Fsmd) : Type 0 where
  pub reset : k.reset ≡ m.reset
  pub states : k.states ≡ map (state_over f) m.states
  pub locals : (x : ℕ) → bound x ≡ true → is_scalar_local (slice_get m.variables x) ≡ true
  pub registers : (x : ℕ) → bound x ≡ true → is_scalar_local (slice_get k.variables (f x)) ≡ true
  pub kept : (x : ℕ) → bound x ≡ false → slice_get k.variables (f x) ≡ slice_get m.variables x
  pub apart : (x y : ℕ) → bound x ≡ false → f x ≡ f y → x ≡ y
  pub outputs : (s t : Store) → Agree f bound s t → (name : List ℕ) → output m s name ≡ output k t name

-- a branch that writes one of two locals bound to one register, of which the other is live where it leads
pub record ClobbersOver (f : ℕ → ℕ) (bound : ℕ → Bool) (m : Fsmd) (q k written other : ℕ) : Type 0 where
  pub numbered : k < branch_count m q
  pub written_bound : bound written ≡ true
  pub other_bound : bound other ≡ true
  pub differ : written ≢ other
  pub shared : f written ≡ f other
  pub writes : writes written (branch_at m q k) ≡ true
  pub goes_on : target_of m q k ≢ m.reset
  pub live : IsLive m other (target_of m q k)

pub record NeverClobbers (f : ℕ → ℕ) (bound : ℕ → Bool) (m : Fsmd) : Type 0 where
  pub never : (q k written other : ℕ) → ClobbersOver f bound m q k written other → ⊥
