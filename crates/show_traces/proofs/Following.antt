-- The places of a run follow one another by steps of the machine.
use Rattle.std.proofs.Common.{◌≡◌, ℕ, zero, suc, ◌<◌, length, sym, ap, subst}
use Rattle.std.specs.Prelude.{Some}
use Rattle.fs_model.specs.Machines.{Fsmd}
use Rattle.fs_model.specs.SoundMachines.{IsSound}
use Rattle.fs_model.specs.Touched.{touched_by_step, AllInRange}
use Rattle.fs_model.specs.Trees.{Branch}
use Rattle.fs_runs.proofs.Steps.{one_branch, one_open, takes}
use Rattle.show_traces.specs.Traces.{Place, branch_at, changes_at, place_behind, next_place, place_after, line_by}
use Rattle.show_traces.specs.Stepping.{IsStepAt}
use Rattle.show_traces.specs.TraceLaws.{StepsTo, PlacesFollow}

-- what the branch that is taken gives
pub step_at : (m : Fsmd) (p : Place) (b : Branch) → IsSound m → p.state < length m.states → branch_at m p ≡ Some b
    → AllInRange (touched_by_step m p.state p.store) → IsStepAt m p b.target (changes_at p b)
step_at m p b sound h e range =
    let t = takes m p.state p.store b sound h e in
    record {
      in_range = range;
      step = t.step;
      leads = ap (place_behind p) e;
      line = λ k. ap (line_by m k p) e;
      within = t.target;
      suit = t.suit;
    }

-- the place after one step, and that its state is one of the machine
follows_once : (m : Fsmd) (p : Place) → IsSound m → p.state < length m.states → StepsTo m p (next_place m p) × ((next_place m p).state < length m.states)
follows_once m p sound h =
    let one = one_branch m p.state p.store sound h in
    let e : branch_at m p ≡ Some one.branch = one_open m p.state p.store sound h in
    let t = takes m p.state p.store one.branch sound h e in
    subst (λ (n : Place). StepsTo m p n × (n.state < length m.states)) (sym (ap (place_behind p) e)) (t.step, t.target)

stays_within : (m : Fsmd) (p : Place) (n : ℕ) → IsSound m → p.state < length m.states → (place_after m n p).state < length m.states
stays_within m p zero sound h = h
stays_within m p (suc n) sound h = (follows_once m (place_after m n p) sound (stays_within m p n sound h)).1

pub places_follow : PlacesFollow
places_follow m p n sound h = (follows_once m (place_after m n p) sound (stays_within m p n sound h)).0
