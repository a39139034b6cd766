-- Machines that differ only in the names of their states.
use Rattle.std.specs.Prelude.{◌≡◌, ℕ, List, ◌∷◌, length, map, filter}
use Rattle.std.specs.List.{range_with_len}
use Rattle.fs_model.specs.Machines.{Fsmd, transitions_of}
use Rattle.fs_cut.specs.Paths.{Point, Start, At, is_fork}

-- both have the same variables and the same reset state by its number, and each state has the same transitions
pub record DifferInNames (a b : Fsmd) : Type 0 where
  pub variables : a.variables ≡ b.variables
  pub reset : a.reset ≡ b.reset
  pub transitions : (q : ℕ) → transitions_of a q ≡ transitions_of b q

-- each point of a machine but the return, paired with itself
abbrev pub own_pairs : Fsmd → List (Point × Point)
own_pairs m = (Start, Start) ∷ map (λ q. (At q, At q)) (filter (is_fork m) (range_with_len 0 (length m.states)))
