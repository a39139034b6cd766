-- Machines that differ only in the names of their states and in how basic blocks are cut into states, and of whose reset states
-- both test or neither does.
use Rattle.std.specs.Prelude.{◌≡◌, ◌≢◌, ◌⊎◌, ℕ, true, List, Some, slice_get}
use Rattle.fs_model.specs.SoundMachines.{branch_count}
use Rattle.fs_model.specs.declared.parts.VarInfo.{VarInfo}
use Rattle.fs_model.specs.Expressions.{Literal}
use Rattle.fs_model.specs.Machines.{Fsmd}
use Rattle.fs_cut.specs.Paths.{Point, Start, Done, Path, IsPath, is_point, state_of, branch_at, steps_in}
use Rattle.cert_bisimulation.specs.PathExpressions.{ExpressionVector, initial, left_by}
use Rattle.cert_bisimulation.specs.ExpressionSameness.{SameLiterals, SameLeft}

-- both declare the same names with the same roles and sorts
pub record DeclareTheSame (a b : Fsmd) : Type 0 where
  pub forth : (x : ℕ) (v : VarInfo) → slice_get a.variables x ≡ Some v → (y : ℕ) × (slice_get b.variables y ≡ Some v)
  pub back : (y : ℕ) (v : VarInfo) → slice_get b.variables y ≡ Some v → (x : ℕ) × (slice_get a.variables x ≡ Some v)

-- two points are listed as a pair, or both are the return
abbrev pub ArePaired : List (Point × Point) → Point → Point → Type 0
ArePaired pairs P Q = ((k : ℕ) × (slice_get pairs k ≡ Some (P, Q))) ⊎ ((P ≡ Done) × (Q ≡ Done))

-- the literals of a path's branch
abbrev pub literals_of : Fsmd → Path → List (Literal ℕ)
literals_of m p = (branch_at m (state_of m p.from) p.branch).literals

-- what a path leaves
abbrev pub left_after : Fsmd → Path → ExpressionVector
left_after m p = left_by m (steps_in p) initial

-- two paths have the same literals, leave the same, and end in a pair
pub record AlikePaths (a b : Fsmd) (pairs : List (Point × Point)) (p q : Path) : Type 0 where
  pub literals : SameLiterals a b (literals_of a p) (literals_of b q)
  pub values : SameLeft a b (left_after a p) (left_after b q)
  pub ends : ArePaired pairs p.to q.to

-- two points, none of them the return, have as many paths, and the k-th paths are alike
pub record AlikePoints (a b : Fsmd) (pairs : List (Point × Point)) (P Q : Point) : Type 0 where
  pub left_point : is_point a P ≡ true
  pub right_point : is_point b Q ≡ true
  pub left_goes : P ≢ Done
  pub right_goes : Q ≢ Done
  pub same_count : branch_count a (state_of a P) ≡ branch_count b (state_of b Q)
  pub paths : (p q : Path) → IsPath a p → IsPath b q → p.from ≡ P → q.from ≡ Q → p.branch ≡ q.branch → AlikePaths a b pairs p q

-- two machines are alike by these pairs of points: they declare the same, no point of either machine stands in two pairs,
-- the starts are a pair, and the points of each pair are alike
pub record Alike (a b : Fsmd) (pairs : List (Point × Point)) : Type 0 where
  pub declare_the_same : DeclareTheSame a b
  pub left_once : (i j : ℕ) (P Q R : Point) → slice_get pairs i ≡ Some (P, Q) → slice_get pairs j ≡ Some (P, R) → i ≡ j
  pub right_once : (i j : ℕ) (P Q R : Point) → slice_get pairs i ≡ Some (P, R) → slice_get pairs j ≡ Some (Q, R) → i ≡ j
  pub starts : (k : ℕ) × (slice_get pairs k ≡ Some (Start, Start))
  pub points : (k : ℕ) (P Q : Point) → slice_get pairs k ≡ Some (P, Q) → AlikePoints a b pairs P Q

-- P holds where two machines are alike, by whatever pairs of points
abbrev pub WhereAlike : (a b : Fsmd) → (P : Type 0) → Type 0
WhereAlike a b P = (pairs : List (Point × Point)) → Alike a b pairs → P
