-- States to which nothing leads may be left out.
use Rattle.std.proofs.Common.{◌≡◌, ℕ, suc, ◌<◌, length, refl, sym, ◌∙◌, ap, arith, Bool, true, false, List, [], ◌∷◌, map, Option, Some}
use Rattle.std.specs.Prelude.{◌==◌, ◌||◌, cond, option_map, slice_get}
use Rattle.std.specs.List.{slice_index_or}
use Rattle.std.proofs.lemmas.Bool.Decides.{nat_tests}
use Rattle.fs_model.proofs.Booleans.{or_other}
use Rattle.fs_model.specs.Expressions.{Transition}
use Rattle.fs_model.specs.Machines.{State, Fsmd, transitions_of}
use Rattle.fs_model.specs.Stores.{Store}
use Rattle.fs_model.specs.Meaning.{condition_holds, transition_taken, act_all}
use Rattle.fs_model.specs.Runs.{SameBehaviour}
use Rattle.fs_model.specs.SoundMachines.{occurs}
use Rattle.fs_ast.proofs.Opens.{takes_one}
use Rattle.hls_block_filling.specs.RowMachines.{state_at}
use Rattle.hls_block_filling.specs.MachineSelections.{selected_place, transition_renumbered, machine_of_states, IsClosedUnderTargets}
use Rattle.hls_block_filling.proofs.Paces.{Pace, same_by_paces}

-- what stands at the place of a number
at_step : {X : Type 0} (f : ℕ → X) (k q : ℕ) (xs : List X) (p : ℕ) (d : X) (t : Bool) → (k == q) ≡ t → ((k == q) ≡ false → slice_index_or xs p d ≡ f q)
    → slice_index_or (f k ∷ xs) (cond t 0 (suc p)) d ≡ f q
at_step f k q xs p d true e h = ap f (grind (arith, nat_tests))
at_step f k q xs p d false e h = h e

pub at_place : {X : Type 0} (f : ℕ → X) (keep : List ℕ) (q : ℕ) (d : X) → occurs q keep ≡ true → slice_index_or (map f keep) (selected_place keep q) d ≡ f q
at_place f [] q d h = absurd (cc)
at_place f (k ∷ ks) q d h = at_step f k q (map f ks) (selected_place ks q) d (k == q) refl (λ e. at_place f ks q d (or_other (k == q) (occurs q ks) e h))

below_step : (t b : Bool) (j n : ℕ) → (t || b) ≡ true → (b ≡ true → j < n) → cond {A = ℕ} t 0 (suc j) < suc n
below_step true b j n h i = omega arith
below_step false b j n h i = let l : j < n = i h in omega (arith, l)

pub place_below : (keep : List ℕ) (q : ℕ) → occurs q keep ≡ true → selected_place keep q < length keep
place_below [] q h = absurd (cc h)
place_below (k ∷ keep) q h = below_step (k == q) (occurs q keep) (selected_place keep q) (length keep) h (place_below keep q)

pub same_place : (keep : List ℕ) (q r : ℕ) → occurs q keep ≡ true → occurs r keep ≡ true → selected_place keep q ≡ selected_place keep r → q ≡ r
same_place keep q r h i e =
    sym (at_place (λ x. x) keep q 0 h) ∙ ap (λ p. slice_index_or (map (λ (x : ℕ). x) keep) p 0) e ∙ at_place (λ x. x) keep r 0 i

-- the transition taken is among those of the state
record Stands (ls : List (Transition ℕ ℕ)) (l : Transition ℕ ℕ) : Type 0 where
  index : ℕ
  is : slice_get ls index ≡ Some l

stands_step : (l k : Transition ℕ ℕ) (ls : List (Transition ℕ ℕ)) (o : Option (Transition ℕ ℕ)) (t : Bool) → cond t (Some k) o ≡ Some l
    → (o ≡ Some l → Stands ls l) → Stands (k ∷ ls) l
stands_step l k ls o true e h = record { index = 0; is = e }
stands_step l k ls o false e h = let w = h e in record { index = suc w.index; is = w.is }

stands : (ls : List (Transition ℕ ℕ)) (s : Store) (l : Transition ℕ ℕ) → transition_taken ls s ≡ Some l → Stands ls l
stands [] s l e = absurd (cc e)
stands (k ∷ ls) s l e = stands_step l k ls (transition_taken ls s) (condition_holds k.guard s) e (λ f. stands ls s l f)

taken_step : (keep : List ℕ) (k : Transition ℕ ℕ) (o : Option (Transition ℕ ℕ)) (t : Bool)
    → cond t (Some (transition_renumbered keep k)) (option_map (transition_renumbered keep) o) ≡ option_map (transition_renumbered keep) (cond t (Some k) o)
taken_step keep k o true = refl
taken_step keep k o false = refl

taken_renumbered : (keep : List ℕ) (ls : List (Transition ℕ ℕ)) (s : Store)
    → transition_taken (map (transition_renumbered keep) ls) s ≡ option_map (transition_renumbered keep) (transition_taken ls s)
taken_renumbered keep [] s = refl
taken_renumbered keep (l ∷ ls) s =
    ap (λ o. cond (condition_holds l.guard s) (Some (transition_renumbered keep l)) o) (taken_renumbered keep ls s)
    ∙ taken_step keep l (transition_taken ls s) (condition_holds l.guard s)

module _ (m : Fsmd) (keep : List ℕ) (closed : IsClosedUnderTargets m keep) where
  abbrev Kept : ℕ → ℕ → Type 0
  Kept q p = (occurs q keep ≡ true) × (p ≡ selected_place keep q)

  pub lines_kept : (q : ℕ) → occurs q keep ≡ true → transitions_of (machine_of_states m keep) (selected_place keep q)
      ≡ map (transition_renumbered keep) (transitions_of m q)
  lines_kept q h = ap (λ (x : State). x.transitions)
      (at_place (λ k. record { name = (state_at m k).name; transitions = map (transition_renumbered keep) (transitions_of m k) }) keep q
      (record { name = []; transitions = [] }) h)

  pace : (q p : ℕ) (s : Store) → Kept q p → Pace m (machine_of_states m keep) Kept q p s
  pace q p s k =
      let o = takes_one (transitions_of m q) s (closed.goes_on q k.0) in
      let w = stands (transitions_of m q) s o.transition o.taken in
      let t : transition_taken (transitions_of (machine_of_states m keep) p) s ≡ Some (transition_renumbered keep o.transition) =
      ap (λ x. transition_taken (transitions_of (machine_of_states m keep) x) s) k.1 ∙ ap (λ ls. transition_taken ls s) (lines_kept q k.0)
      ∙ taken_renumbered keep (transitions_of m q) s ∙ ap (option_map (transition_renumbered keep)) o.taken in
      record {
        left = 0;
        right = 0;
        to_left = o.transition.target;
        to_right = selected_place keep o.transition.target;
        store = act_all o.transition.assignments s s;
        leads_left = record {
          state = o.transition.target;
          store = act_all o.transition.assignments s s;
          step = record { transition = o.transition; taken = o.taken; target = refl; store = refl };
          after = (refl, refl);
        };
        leads_right = record {
          state = selected_place keep o.transition.target;
          store = act_all o.transition.assignments s s;
          step = record { transition = transition_renumbered keep o.transition; taken = t; target = refl; store = refl };
          after = (refl, refl);
        };
        related = (closed.leads q o.transition w.index k.0 w.is, refl);
      }

  pub selected_behaves : SameBehaviour m (machine_of_states m keep)
  selected_behaves = same_by_paces m (machine_of_states m keep) Kept refl (closed.reset, refl) (λ q p k e. k.1 ∙ ap (selected_place keep) e)
      (λ q p k e. same_place keep q m.reset k.0 closed.reset (sym k.1 ∙ e)) pace
