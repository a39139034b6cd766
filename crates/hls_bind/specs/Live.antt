-- Sets of what is live at each state.
use Rattle.std.specs.Prelude.{◌≡◌, ℕ, ◌<◌, true, List, length}
use Rattle.fs_model.specs.Machines.{Fsmd}
use Rattle.fs_variable_sets.specs.declared.VariableSet.{VariableSet}
use Rattle.fs_variable_sets.specs.Flows.{has_at}
use Rattle.hls_bind.specs.Liveness.{IsLive}

-- the set of each state has the variables below 128 that are live there
pub record HasLive (m : Fsmd) (sets : List VariableSet) : Type 0 where
  pub sound : (q x : ℕ) → q < length sets → x < 128 → has_at sets q x ≡ true → IsLive m x q
  pub complete : (q x : ℕ) → x < 128 → IsLive m x q → has_at sets q x ≡ true
