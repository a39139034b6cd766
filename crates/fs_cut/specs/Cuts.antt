-- Runs cut into paths.
use Rattle.std.specs.Prelude.{◌≡◌, ℕ, zero, suc, ◌+◌, true, cond, length, List, [], ◌∷◌, ◌++◌}
use Rattle.fs_model.specs.Machines.{Fsmd, transitions_of}
use Rattle.fs_model.specs.Stores.{Store}
use Rattle.fs_model.specs.Runs.{FirstReturn}
use Rattle.fs_model.specs.Trees.{Branch, branches_of, branch_holds}
use Rattle.fs_cut.specs.Paths.{Point, Start, At, Done, Path, IsPath, BranchStep, steps_in, target_of, store_after}
use Rattle.fs_cut.specs.Paths.{store_after_steps, takes}

-- the number of the first branch whose literals all hold
abbrev pub taken_index : List Branch → Store → ℕ
taken_index [] s = 0
taken_index (b ∷ bs) s = cond (branch_holds s b) 0 (suc (taken_index bs s))

-- the branch that a store takes
abbrev pub branch_taken : Fsmd → ℕ → Store → ℕ
branch_taken m q s = taken_index (branches_of (transitions_of m q)) s

-- the next n steps from a state and a store
abbrev pub steps_of : Fsmd → ℕ → ℕ → Store → List BranchStep
steps_of m zero q s = []
steps_of m (suc n) q s = let x : BranchStep = record { state = q; branch = branch_taken m q s } in
    x ∷ steps_of m n (target_of m q x.branch) (store_after m x s)

-- paths that follow one another, from a point to the return
abbrev pub Chain : Fsmd → Point → List Path → Type 0
Chain m P [] = P ≡ Done
Chain m P (p ∷ ps) = (p.from ≡ P) × IsPath m p × Chain m p.to ps

-- the steps of paths, joined
abbrev pub join_paths : List Path → List BranchStep
join_paths [] = []
join_paths (p ∷ ps) = steps_in p ++ join_paths ps

-- paths into which steps from the reset state are cut
pub record IsCut (m : Fsmd) (steps : List BranchStep) (ps : List Path) : Type 0 where
  pub chain : Chain m Start ps
  pub all : join_paths ps ≡ steps

-- each run is cut into paths in exactly one way
pub record CutsInOneWay (m : Fsmd) : Type 0 where
  pub leads : (s t : Store) (n : ℕ) → FirstReturn m n m.reset s t → store_after_steps m (steps_of m n m.reset s) s ≡ t
  pub some : (s t : Store) (n : ℕ) → FirstReturn m n m.reset s t → (ps : List Path) × IsCut m (steps_of m n m.reset s) ps
  pub one : (steps : List BranchStep) (ps qs : List Path) → IsCut m steps ps → IsCut m steps qs → ps ≡ qs

-- from a point and a store, n steps are left of a run, and it ends with store t
abbrev pub Remains : Fsmd → Point → ℕ → Store → Store → Type 0
Remains m Start n s t = FirstReturn m n m.reset s t
Remains m (At q) n s t = FirstReturn m n q s t
Remains m Done n s t = (n ≡ 0) × (s ≡ t)

-- the path that a store takes from a point
pub record TakenFrom (m : Fsmd) (P : Point) (s : Store) : Type 0 where
  pub path : Path
  pub is_path : IsPath m path
  pub from : path.from ≡ P
  pub taken : takes m path s ≡ true

-- a run at the beginning of a path goes on at its end, with its effect, after its steps
pub record GoesDown (m : Fsmd) (p : Path) (n : ℕ) (s t : Store) : Type 0 where
  pub left : ℕ
  pub steps : n ≡ length p.states + left
  pub remains : Remains m p.to left (store_after_steps m (steps_in p) s) t
