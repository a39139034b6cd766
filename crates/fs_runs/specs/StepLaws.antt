-- What a step touches, told by branches, and what a run answers, once.
use Rattle.std.specs.Prelude.{◌≡◌, ℕ, ◌<◌, length, Some}
use Rattle.fs_model.specs.SoundMachines.{IsSound}
use Rattle.fs_model.specs.Machines.{Fsmd, transitions_of}
use Rattle.fs_model.specs.Stores.{Store}
use Rattle.fs_model.specs.Runs.{Inputs}
use Rattle.fs_model.specs.Touched.{touched_by_step, touched_by_assignments, AllInRange}
use Rattle.fs_model.specs.Trees.{Branch, branches_of}
use Rattle.fs_runs.specs.declared.run.RunStop.{RunStop}
use Rattle.fs_stores.specs.Reads.{touched_by_branches, taken_branch, Both}
use Rattle.fs_runs.specs.Outcomes.{Outputs, EndsWith, IsStopped, IsStopOfRun}

-- the numbers looked at up to the branch that a store takes, and those of its assignments, are in range
abbrev pub BranchInRange : Fsmd → ℕ → Store → Branch → Type 0
BranchInRange m q s b = AllInRange (touched_by_branches (branches_of (transitions_of m q)) s)
    × AllInRange (touched_by_assignments b.assignments s)

-- a step stays in range exactly where its branch does
abbrev pub TouchedByBranches : Type 0
TouchedByBranches =
    (m : Fsmd) (q : ℕ) (s : Store) (b : Branch) → IsSound m → q < length m.states
    → taken_branch (branches_of (transitions_of m q)) s ≡ Some b
    → Both (AllInRange (touched_by_step m q s)) (BranchInRange m q s b)

-- two ends of a run are one
abbrev pub OneEnd : Type 0
OneEnd = (m : Fsmd) (ins : Inputs) (limit : ℕ) (o p : Outputs) (n k : ℕ) → EndsWith m ins limit o n → EndsWith m ins limit p k
    → (o ≡ p) × (n ≡ k)

-- two stops of a run are one, where memory did not run out
abbrev pub OneStop : Type 0
OneStop = (m : Fsmd) (ins : Inputs) (limit : ℕ) (x y : RunStop) → IsStopped m ins limit x → IsStopped m ins limit y
    → IsStopOfRun x → IsStopOfRun y → x ≡ y

-- a run that ends is stopped only where memory runs out
abbrev pub EndOrStop : Type 0
EndOrStop = (m : Fsmd) (ins : Inputs) (limit : ℕ) (o : Outputs) (n : ℕ) (x : RunStop) → EndsWith m ins limit o n
    → IsStopped m ins limit x → ¬ IsStopOfRun x
