-- The trace of a run, as a loop of steps goes along it.
use Rattle.std.proofs.Common.{◌≡◌, ◌≢◌, ℕ, suc, ◌+◌, ◌<◌, ◌++◌, ◌∙◌, List, [], refl, sym, ap, ap₂, subst, arith}
use Rattle.fs_model.specs.Machines.{Fsmd}
use Rattle.fs_model.specs.Stores.{Store}
use Rattle.fs_model.specs.Runs.{Inputs, FirstReturn, start}
use Rattle.fs_model.specs.Touched.{touched_by_step, AllInRange}
use Rattle.fs_runs.proofs.Turns.{At, at_first, at_next, ended_goes, ended_range, leaves_range, runs_on}
use Rattle.show_traces.specs.Traces.{Place, place_at, next_place, place_after, first_place, step_text, steps_text, IsTrace, Returns, AtLimit, Leaves}
use Rattle.show_traces.specs.Stepping.{TakesStep}

-- so many steps lead from the reset state to a place, and their lines are written
pub record Goes (m : Fsmd) (from : Store) (steps state : ℕ) (store : Store) (text : List ℕ) : Type 0 where
  pub at : At m steps state store m.reset from
  pub place : place_after m steps (place_at m.reset from) ≡ place_at state store
  pub told : text ≡ steps_text m steps (place_at m.reset from)

pub goes_first : (m : Fsmd) (from : Store) → Goes m from 0 m.reset from []
goes_first m from = record { at = at_first m m.reset from; place = refl; told = refl }

one_more : (k : ℕ) → suc k ≡ k + 1
one_more k = omega arith

place_next : (m : Fsmd) (k : ℕ) (p q r : Place) → place_after m k p ≡ q → next_place m q ≡ r → place_after m (k + 1) p ≡ r
place_next m k p q r e f = subst (λ n. place_after m n p ≡ r) (one_more k) (ap (next_place m) e ∙ f)

told_next : (m : Fsmd) (k : ℕ) (p q : Place) (old new : List ℕ) → place_after m k p ≡ q → old ≡ steps_text m k p → new ≡ old ++ step_text m (k + 1) q
    → new ≡ steps_text m (k + 1) p
told_next m k p q old new e f g =
    subst (λ n. new ≡ steps_text m n p) (one_more k)
    (g ∙ ap₂ (λ (front : List ℕ) (place : Place). front ++ step_text m (k + 1) place) f (sym e))

module _ (m : Fsmd) (k q r : ℕ) (s t : Store) (old new : List ℕ) where
  -- one more step that doesn't return
  pub goes_next : (from : Store) → Goes m from k q s old → TakesStep m (k + 1) (place_at q s) (place_at r t) old new → r ≢ m.reset
      → Goes m from (k + 1) r t new
  goes_next from g x h = record {
    at = at_next m k q r s t m.reset from g.at x.step x.in_range h;
    place = place_next m k (place_at m.reset from) (place_at q s) (place_at r t) g.place x.leads;
    told = told_next m k (place_at m.reset from) (place_at q s) old new g.place g.told x.added;
  }

  -- one that returns
  pub returned : (ins : Inputs) (limit : ℕ) → Goes m (start m ins) k q s old → TakesStep m (k + 1) (place_at q s) (place_at r t) old new → r ≡ m.reset
      → k < limit → IsTrace m ins limit new
  returned ins limit g x h less = record {
    steps = k + 1;
    within = omega (arith, less);
    last = Returns
        (subst (λ (p : Place). FirstReturn m (k + 1) m.reset (start m ins) p.store)
        (sym (place_next m k (first_place m ins) (place_at q s) (place_at r t) g.place x.leads))
        (ended_goes m k q r s t m.reset (start m ins) g.at x.step h))
        (ended_range m k q r s t m.reset (start m ins) g.at x.step x.in_range);
    told = told_next m k (first_place m ins) (place_at q s) old new g.place g.told x.added;
  }

module _ (m : Fsmd) (ins : Inputs) (limit k q : ℕ) (s : Store) (text : List ℕ) (g : Goes m (start m ins) k q s text) where
  -- the next step touches a number outside 128 bits
  pub left : (AllInRange (touched_by_step m q s) → ⊥) → k < limit → IsTrace m ins limit text
  left out less = record {
    steps = k;
    within = omega (arith, less);
    last = Leaves (leaves_range m ins limit k q s g.at less out);
    told = g.told;
  }

  -- all steps that are allowed
  pub ended : k ≡ limit → IsTrace m ins limit text
  ended e = record { steps = k; within = omega (arith, e); last = AtLimit e (runs_on m ins limit k q s g.at e); told = g.told }
