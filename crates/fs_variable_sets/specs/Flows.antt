-- What is live at states, as sets of variables, and by the branches that lead on.
use Rattle.std.specs.Prelude.{◌≡◌, ◌≢◌, ℕ, ◌+◌, ◌-◌, ◌^◌, ◌<◌, ◌==◌, Bool, true, false, not, ◌&&◌, ◌||◌, cond, List, [], ◌∷◌}
use Rattle.std.specs.Prelude.{Contains}
use Rattle.std.specs.List.{slice_index_or}
use Rattle.fs_variable_sets.specs.declared.VariableSet.{VariableSet}
use Rattle.fs_variable_sets.specs.Sets.{has_variable}
use Rattle.fs_variable_sets.specs.declared.flows.Flow.{Flow}

-- both states of a branch are there
abbrev pub IsInside : ℕ → Flow → Type 0
IsInside count f = (f.from < count) × (f.target < count)

-- the set of a state, empty where there is no such state
abbrev pub set_at : List VariableSet → ℕ → VariableSet
set_at sets q = slice_index_or sets q (record { bits = 0 })

-- whether the set of a state has a variable
abbrev pub has_at : List VariableSet → ℕ → ℕ → Bool
has_at sets q x = has_variable (set_at sets q) x

-- what is live before a branch by it, from what is live where it leads, or nothing where it leads to the reset state
abbrev pub live_before : ℕ → List VariableSet → Flow → ℕ → Bool
live_before reset live f = cond (f.target == reset) (has_variable f.reads)
    (λ x. has_variable f.reads x || (has_at live f.target x && not (has_variable f.writes x)))

-- what is live at states, once that is added
abbrev pub live_with_flow : ℕ → List VariableSet → Flow → ℕ → ℕ → Bool
live_with_flow reset live f q x = has_at live q x || (q == f.from && live_before reset live f x)

-- nothing more is live by a branch
abbrev pub IsFixedPoint : ℕ → List VariableSet → Flow → Type 0
IsFixedPoint reset live f = (x : ℕ) → live_before reset live f x ≡ true → has_at live f.from x ≡ true

-- it falls where a variable is added
abbrev pub flow_weight : List VariableSet → ℕ
flow_weight [] = 0
flow_weight (s ∷ ss) = (2 ^ 128 - s.bits) + flow_weight ss

-- by walks: a branch reads the variable, or leads on without writing it
pub data IsLiveIn (flows : List Flow) (reset x : ℕ) : ℕ → Type 0 where
  reading : (f : Flow) → Contains flows f → has_variable f.reads x ≡ true → IsLiveIn flows reset x f.from
  passing : (f : Flow) → Contains flows f → has_variable f.writes x ≡ false → f.target ≢ reset → IsLiveIn flows reset x f.target
      → IsLiveIn flows reset x f.from

-- each variable of a set is live
abbrev pub AreLive : List Flow → ℕ → List VariableSet → Type 0
AreLive flows reset live = (q x : ℕ) → has_at live q x ≡ true → IsLiveIn flows reset x q

-- the variables of the sets are what is live
abbrev pub IsExact : List Flow → ℕ → List VariableSet → Type 0
IsExact flows reset live = AreLive flows reset live × ((q x : ℕ) → IsLiveIn flows reset x q → has_at live q x ≡ true)
