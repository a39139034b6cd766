-- What branches read and write, and what is live at a state.
use Rattle.std.specs.Prelude.{◌≡◌, ◌≢◌, ℕ, ◌<◌, Bool, true, false, List, [], ◌∷◌, ◌++◌}
use Rattle.std.specs.List.{flat_map}
use Rattle.fs_model.specs.Expressions.{Assignment, Assign, ArrayWrite, Emit}
use Rattle.fs_model.specs.Machines.{Fsmd}
use Rattle.fs_model.specs.Trees.{Branch}
use Rattle.fs_model.specs.PartFolds.{scalars, uses_in_literal}
use Rattle.fs_model.specs.SoundMachines.{scalars_in, assigned_in, occurs, branch_count}
use Rattle.fs_cut.specs.Paths.{branch_at, target_of}

-- the scalars that an assignment reads: in its right side, its index or what it emits
abbrev pub read_by_assignment : Assignment ℕ → List ℕ
read_by_assignment (Assign x e) = scalars_in e
read_by_assignment (ArrayWrite x i e) = scalars_in i ++ scalars_in e
read_by_assignment (Emit x e) = scalars_in e

-- the scalars that a branch reads: in its literals and by its assignments
abbrev pub read_by : Branch → List ℕ
read_by b = flat_map (uses_in_literal scalars) b.literals ++ flat_map read_by_assignment b.assignments

abbrev pub reads : ℕ → Branch → Bool
reads x b = occurs x (read_by b)

-- whether a branch assigns a scalar
abbrev pub writes : ℕ → Branch → Bool
writes x b = occurs x (assigned_in b.assignments)

-- branches by their numbers, one after another from state q to state r, of which none writes x and none leads to the reset state
abbrev pub PassesUnwritten : Fsmd → ℕ → ℕ → List ℕ → ℕ → Type 0
PassesUnwritten m x q [] r = q ≡ r
PassesUnwritten m x q (k ∷ ks) r = (k < branch_count m q) × (writes x (branch_at m q k) ≡ false) × (target_of m q k ≢ m.reset)
    × PassesUnwritten m x (target_of m q k) ks r

-- x is live at q: such branches lead to a state of which a branch reads x
pub record IsLive (m : Fsmd) (x q : ℕ) : Type 0 where
  pub earlier : List ℕ
  pub state : ℕ
  pub branch : ℕ
  pub passes : PassesUnwritten m x q earlier state
  pub numbered : branch < branch_count m state
  pub read : reads x (branch_at m state branch) ≡ true
