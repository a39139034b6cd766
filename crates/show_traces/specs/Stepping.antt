-- What a step from a place of a run gives.
use Rattle.std.specs.Prelude.{◌≡◌, ◌<◌, ◌++◌, ℕ, List, length, Option, Some, None}
use Rattle.fs_model.specs.declared.parts.StateId.{StateId}
use Rattle.fs_model.specs.Machines.{Fsmd}
use Rattle.fs_model.specs.Stores.{Store}
use Rattle.fs_model.specs.Runs.{Step}
use Rattle.fs_model.specs.Touched.{touched_by_step, AllInRange}
use Rattle.fs_stores.specs.declared.changes.Change.{Change}
use Rattle.fs_stores.specs.declared.values.Value.{Value}
use Rattle.fs_stores.specs.Values.{HasSorts}
use Rattle.fs_stores.specs.Changes.{changed_all, AllSuit}
use Rattle.show_traces.specs.Traces.{Place, place_at, next_place, step_text, step_line}

-- the step from a place leads to this state and makes these changes, and each number that it touches lies within 128 bits
pub record IsStepAt (m : Fsmd) (p : Place) (target : ℕ) (changes : List Change) : Type 0 where
  pub in_range : AllInRange (touched_by_step m p.state p.store)
  pub step : Step m p.state p.store target (changed_all p.store changes)
  pub leads : next_place m p ≡ place_at target (changed_all p.store changes)
  pub line : (number : ℕ) → step_text m number p ≡ step_line m number p.state target changes
  pub within : target < length m.states
  pub suit : (vs : List Value) → HasSorts m vs → AllSuit vs changes

-- the step of this number was taken from a place to another one, and its line was added
pub record TakesStep (m : Fsmd) (number : ℕ) (p next : Place) (old new : List ℕ) : Type 0 where
  pub in_range : AllInRange (touched_by_step m p.state p.store)
  pub step : Step m p.state p.store next.state next.store
  pub leads : next_place m p ≡ next
  pub within : next.state < length m.states
  pub added : new ≡ old ++ step_text m number p

-- the same where there is a next state, and else a number outside 128 bits is touched and nothing was added
abbrev pub StepsAt : Fsmd → (number : ℕ) → Place → Option StateId → Store → (old new : List ℕ) → Type 0
StepsAt m k p None t old new = (¬ AllInRange (touched_by_step m p.state p.store)) × (new ≡ old)
StepsAt m k p (Some r) t old new = TakesStep m k p (place_at r.0 t) old new
