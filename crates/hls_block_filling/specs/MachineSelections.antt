-- Some of a machine's states, numbered anew.
use Rattle.std.specs.Prelude.{◌≡◌, ℕ, suc, ◌==◌, true, cond, List, [], ◌∷◌, map, IsTrue, Some, slice_get}
use Rattle.fs_model.specs.Expressions.{Transition}
use Rattle.fs_model.specs.Machines.{Fsmd, transitions_of}
use Rattle.fs_model.specs.SoundMachines.{occurs, ends_open}
use Rattle.hls_block_filling.specs.RowMachines.{state_at}

-- the place of a number in a list that has it
abbrev pub selected_place : List ℕ → ℕ → ℕ
selected_place [] q = 0
selected_place (k ∷ ks) q = cond (k == q) 0 (suc (selected_place ks q))

abbrev pub transition_renumbered : List ℕ → Transition ℕ ℕ → Transition ℕ ℕ
transition_renumbered keep l = record { guard = l.guard; target = selected_place keep l.target; assignments = l.assignments }

abbrev pub machine_of_states : Fsmd → List ℕ → Fsmd
machine_of_states m keep = record {
  variables = m.variables;
  reset = selected_place keep m.reset;
  states = map (λ q. record { name = (state_at m q).name; transitions = map (transition_renumbered keep) (transitions_of m q) })
      keep;
}

-- the reset state is selected, and each state to which a selected one leads
pub record IsClosedUnderTargets (m : Fsmd) (keep : List ℕ) : Type 0 where
  pub reset : occurs m.reset keep ≡ true
  pub leads : (q : ℕ) (l : Transition ℕ ℕ) (k : ℕ) → occurs q keep ≡ true → slice_get (transitions_of m q) k ≡ Some l
      → occurs l.target keep ≡ true
  pub goes_on : (q : ℕ) → occurs q keep ≡ true → IsTrue (ends_open (transitions_of m q))
