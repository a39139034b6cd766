-- Points of a machine, and the paths between them.
use Rattle.std.specs.Prelude.{◌≡◌, ◌≢◌, ℕ, ◌<◌, ◌==◌, nat_lt, Bool, true, false, not, ◌&&◌, cond, List, [], ◌∷◌, map}
use Rattle.std.specs.List.{slice_index_or}
use Rattle.fs_model.specs.SoundMachines.{branch_count, is_cutpoint}
use Rattle.fs_model.specs.Machines.{Fsmd, transitions_of}
use Rattle.fs_model.specs.Stores.{Store}
use Rattle.fs_model.specs.Meaning.{act_all}
use Rattle.fs_model.specs.Trees.{Branch, branches_of, branch_holds}

-- the reset state as a run begins, a state with more than one branch, or the return to the reset state
pub data Point : Type 0 where
  Start : Point
  At : ℕ → Point
  Done : Point

-- a state with more than one branch that isn't the reset state
abbrev pub is_fork : Fsmd → ℕ → Bool
is_fork m q = not (q == m.reset) && nat_lt 1 (branch_count m q)

abbrev pub is_point : Fsmd → Point → Bool
is_point m Start = true
is_point m (At q) = is_fork m q
is_point m Done = true

-- the state of a point
abbrev pub state_of : Fsmd → Point → ℕ
state_of m Start = m.reset
state_of m (At q) = q
state_of m Done = m.reset

-- the point at which a path ends that comes to a state
abbrev pub end_at : Fsmd → ℕ → Point
end_at m q = cond (q == m.reset) Done (At q)

-- a branch of a state by its number
abbrev pub branch_at : Fsmd → ℕ → ℕ → Branch
branch_at m q k = slice_index_or (branches_of (transitions_of m q)) k (record { literals = []; assignments = []; target = 0 })

-- where a branch leads
abbrev pub target_of : Fsmd → ℕ → ℕ → ℕ
target_of m q k = (branch_at m q k).target

-- from a state, these states are left by their one branch, up to a point
abbrev pub Passes : Fsmd → ℕ → List ℕ → Point → Type 0
Passes m q [] P = (is_cutpoint m q ≡ true) × (P ≡ end_at m q)
Passes m q (r ∷ rs) P = (is_cutpoint m q ≡ false) × (r ≡ q) × Passes m (target_of m q 0) rs P

-- a branch of the state of a point, and the states that are left on the way to a point, that of the first included
pub record Path : Type 0 where
  pub from : Point
  pub branch : ℕ
  pub states : List ℕ
  pub to : Point

-- a path of a machine
pub record IsPath (m : Fsmd) (p : Path) : Type 0 where
  pub point : is_point m p.from ≡ true
  pub goes : p.from ≢ Done
  pub numbered : p.branch < branch_count m (state_of m p.from)
  pub rest : List ℕ
  pub left : p.states ≡ state_of m p.from ∷ rest
  pub passes : Passes m (target_of m (state_of m p.from) p.branch) rest p.to

-- a state with the number of the branch by which it is left
pub record BranchStep : Type 0 where
  pub state : ℕ
  pub branch : ℕ

-- the first state is left by that branch, each other one by its one branch
abbrev pub steps_by : ℕ → List ℕ → List BranchStep
steps_by k [] = []
steps_by k (q ∷ qs) = record { state = q; branch = k } ∷ map (λ r. record { state = r; branch = 0 }) qs

abbrev pub steps_in : Path → List BranchStep
steps_in p = steps_by p.branch p.states

-- the store after a step
abbrev pub store_after : Fsmd → BranchStep → Store → Store
store_after m x s = act_all (branch_at m x.state x.branch).assignments s s

-- the store after steps
abbrev pub store_after_steps : Fsmd → List BranchStep → Store → Store
store_after_steps m [] s = s
store_after_steps m (x ∷ xs) s = store_after_steps m xs (store_after m x s)

-- whether a store takes a path: all literals of its branch hold
abbrev pub takes : Fsmd → Path → Store → Bool
takes m p s = branch_holds s (branch_at m (state_of m p.from) p.branch)
