-- Each place of a run follows by a step of the machine, and a run has one trace.
use Rattle.std.specs.Prelude.{◌≡◌, ◌<◌, ℕ, suc, List, length}
use Rattle.fs_model.specs.Machines.{Fsmd}
use Rattle.fs_model.specs.Runs.{Inputs, Step}
use Rattle.fs_model.specs.SoundMachines.{IsSound}
use Rattle.show_traces.specs.Traces.{Place, place_after, IsTrace}

-- one place leads to another by a step of the machine
abbrev pub StepsTo : Fsmd → (p next : Place) → Type 0
StepsTo m p next = Step m p.state p.store next.state next.store

-- the place after one step more is that to which a step of the machine leads
abbrev pub PlacesFollow : Type 0
PlacesFollow = (m : Fsmd) (p : Place) (n : ℕ) → IsSound m → p.state < length m.states
    → StepsTo m (place_after m n p) (place_after m (suc n) p)

abbrev pub OneTrace : Type 0
OneTrace = (m : Fsmd) (ins : Inputs) (limit : ℕ) (t u : List ℕ) → IsTrace m ins limit t → IsTrace m ins limit u → t ≡ u
