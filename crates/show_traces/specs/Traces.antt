-- A run of a machine, step by step.
use Rattle.std.specs.Prelude.{◌≡◌, ◌≤◌, ℕ, zero, suc, ◌+◌, List, [], ◌∷◌, ◌++◌, Option, Some, None, map, codes, decimal}
use Rattle.std.specs.List.{flat_map}
use Rattle.std.specs.Fmt.{signed_decimal}
use Rattle.fs_model.specs.declared.parts.VarInfo.{VarInfo}
use Rattle.fs_model.specs.Machines.{Fsmd, transitions_of}
use Rattle.fs_model.specs.Stores.{Store}
use Rattle.fs_model.specs.Runs.{Inputs, FirstReturn, start}
use Rattle.fs_model.specs.Touched.{StaysInRange}
use Rattle.fs_model.specs.Trees.{Branch, branches_of}
use Rattle.fs_model.specs.VariableNames.{variable_name}
use Rattle.fs_ast.specs.StoredBranches.{state_name_of}
use Rattle.fs_stores.specs.declared.changes.Change.{Change}
use Rattle.fs_stores.specs.declared.changes.Change.TheVariants.{Set, Put, Append}
use Rattle.fs_stores.specs.Changes.{change_by, changed_all}
use Rattle.fs_stores.specs.Reads.{taken_branch}
use Rattle.fs_runs.specs.Outcomes.{RunsOn, LeavesRange}

-- ---- the places of a run

-- a place of a run: a state with a store
pub record Place : Type 0 where
  pub state : ℕ
  pub store : Store

abbrev pub place_at : (state : ℕ) → Store → Place
place_at q s = record { state = q; store = s }

-- where a run on inputs begins
abbrev pub first_place : Fsmd → Inputs → Place
first_place m ins = place_at m.reset (start m ins)

-- the branch that is taken at a place
abbrev pub branch_at : Fsmd → Place → Option Branch
branch_at m p = taken_branch (branches_of (transitions_of m p.state)) p.store

-- what a branch changes at a place: its assignments in order, each valued in the store of the place
abbrev pub changes_at : Place → Branch → List Change
changes_at p b = map (change_by p.store) b.assignments

-- the place to which a branch leads, and the same place where there is no branch
abbrev pub place_behind : Place → Option Branch → Place
place_behind p None = p
place_behind p (Some b) = place_at b.target (changed_all p.store (changes_at p b))

-- the place after one step, and after so many steps
abbrev pub next_place : Fsmd → Place → Place
next_place m p = place_behind p (branch_at m p)

abbrev pub place_after : Fsmd → (steps : ℕ) → Place → Place
place_after m zero p = p
place_after m (suc n) p = next_place m (place_after m n p)

-- ---- the lines of its steps

-- a number put into a scalar, a number put into an array at an index, and a number emitted to a port
abbrev pub change_text : List VarInfo → Change → List ℕ
change_text vs (Set x v) = variable_name vs x ++ (codes " = " ++ signed_decimal v)
change_text vs (Put x i v) = variable_name vs x ++ (codes "[" ++ (signed_decimal i ++ (codes "] = " ++ signed_decimal v)))
change_text vs (Append x v) = codes "emit " ++ (variable_name vs x ++ (codes " " ++ signed_decimal v))

-- a change behind another one
abbrev pub change_behind : List VarInfo → Change → List ℕ
change_behind vs c = codes ", " ++ change_text vs c

-- the changes of a step, and nothing where it has none
abbrev pub changes_text : List VarInfo → List Change → List ℕ
changes_text vs [] = []
changes_text vs (c ∷ cs) = codes ": " ++ (change_text vs c ++ flat_map (change_behind vs) cs)

-- the names of the states from which and to which a step leads
abbrev pub states_text : Fsmd → (from to : ℕ) → List ℕ
states_text m q r = state_name_of m q ++ (codes " -> " ++ state_name_of m r)

-- the line of a step: its number, its states and its changes
unfoldable pub step_line : Fsmd → (number from to : ℕ) → List Change → List ℕ
step_line m k q r cs = decimal k ++ (codes " " ++ (states_text m q r ++ (changes_text m.variables cs ++ codes "\n")))

-- the line of a step by the branch that it takes, and nothing where it takes none
abbrev pub line_by : Fsmd → (number : ℕ) → Place → Option Branch → List ℕ
line_by m k p None = []
line_by m k p (Some b) = step_line m k p.state b.target (changes_at p b)

-- the line of the step of this number, from a place
abbrev pub step_text : Fsmd → (number : ℕ) → Place → List ℕ
step_text m k p = line_by m k p (branch_at m p)

-- the lines of the first steps from a place, so many, numbered from 1
abbrev pub steps_text : Fsmd → (steps : ℕ) → Place → List ℕ
steps_text m zero p = []
steps_text m (suc n) p = steps_text m n p ++ step_text m (n + 1) (place_after m n p)

-- ---- the trace of a run

-- why no step follows so many: with them the run returns to the reset state for the first time; they are all that are allowed,
-- and it has not returned; or the next one touches a number outside 128 bits. All numbers before lie within 128 bits
pub data IsLast (m : Fsmd) (ins : Inputs) (limit steps : ℕ) : Type 0 where
  Returns : FirstReturn m steps m.reset (start m ins) (place_after m steps (first_place m ins)).store
      → StaysInRange m steps m.reset (start m ins) → IsLast m ins limit steps
  AtLimit : steps ≡ limit → RunsOn m ins limit → IsLast m ins limit steps
  Leaves : LeavesRange m ins limit (steps + 1) → IsLast m ins limit steps

-- a line for each step that a run takes within a limit
pub record IsTrace (m : Fsmd) (ins : Inputs) (limit : ℕ) (text : List ℕ) : Type 0 where
  pub steps : ℕ
  pub within : steps ≤ limit
  pub last : IsLast m ins limit steps
  pub told : text ≡ steps_text m steps (first_place m ins)
