-- How often states are led to, as far as blocks need it.
use Rattle.std.specs.Prelude.{◌≡◌, ℕ, ◌<◌, ◌==◌, List, [], ◌∷◌, map, filter, length}
use Rattle.std.specs.List.{slice_index_or}
use Rattle.fs_model.specs.Machines.{Fsmd}
use Rattle.fs_model.specs.Trees.{Branch}
use Rattle.hls_block_filling.specs.BasicBlocks.{sources}
use Rattle.hls_sched.specs.declared.arrivals.Arrivals.{Arrivals}
use Rattle.hls_sched.specs.declared.arrivals.Arrivals.TheVariants.{Never, Once, Often}

-- how often a state is led to that has these sources
abbrev pub arrivals_of : List ℕ → Arrivals
arrivals_of [] = Never
arrivals_of (q ∷ []) = Once (record { 0 = q })
arrivals_of (q ∷ p ∷ rest) = Often

-- a state, once for each of its branches that leads to another
abbrev pub source_per_branch : ℕ → ℕ → List Branch → List ℕ
source_per_branch q r bs = map (λ b. q) (filter (λ b. b.target == r) bs)

-- of each state how often it is led to
pub record AreArrivals (m : Fsmd) (table : List Arrivals) : Type 0 where
  pub count : length table ≡ length m.states
  pub known : (r : ℕ) → r < length m.states → slice_index_or table r Never ≡ arrivals_of (sources m r)
