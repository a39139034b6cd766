-- Tables of nodes, and what they owe. What facts are, and when they hold, is left open.
use Rattle.std.specs.Prelude.{◌≡◌, ◌≢◌, ℕ, ◌<◌, true, List, Some, slice_get}
use Rattle.fs_model.specs.Machines.{Fsmd}
use Rattle.fs_model.specs.Stores.{Store}
use Rattle.fs_model.specs.Runs.{Inputs, start, output}
use Rattle.fs_cut.specs.Paths.{Point, Start, Done, Path, IsPath, is_point, steps_in, store_after_steps, takes}
use Rattle.cert_bisimulation.specs.declared.mode.Mode.{Mode}
use Rattle.cert_bisimulation.specs.declared.mode.Mode.TheVariants.{Both, Left, Right, End}

-- a pair of points with a fact on the stores there
pub record Node (F : Type 0) : Type 0 where
  pub left : Point
  pub right : Point
  pub mode : Mode
  pub rank : ℕ
  pub fact : F

-- a node stands at two points, and its fact holds of two stores
pub record Stands {F : Type 0} (holds : F → Store → Store → Type 0) (table : List (Node F)) (P Q : Point)
    (s u : Store) : Type 0 where
  pub node : Node F
  pub place : ℕ
  pub is_in : slice_get table place ≡ Some node
  pub at_left : node.left ≡ P
  pub at_right : node.right ≡ Q
  pub holds_of : holds node.fact s u

-- the rank falls where the mode stays
abbrev pub Falls : {F : Type 0} → Node F → Node F → Type 0
Falls n k = k.mode ≡ n.mode → k.rank < n.rank

-- where both machines take a path, a node stands at the ends of the two
pub record LeadsBoth {F : Type 0} (holds : F → Store → Store → Type 0) (a b : Fsmd) (table : List (Node F)) (n : Node F)
    (p q : Path) : Type 0 where
  pub leads : (s u : Store) → holds n.fact s u → takes a p s ≡ true → takes b q u ≡ true
      → Stands holds table p.to q.to (store_after_steps a (steps_in p) s) (store_after_steps b (steps_in q) u)

-- where the left machine takes a path alone, a node stands at its end
pub record LeadsLeft {F : Type 0} (holds : F → Store → Store → Type 0) (a b : Fsmd) (table : List (Node F)) (n : Node F)
    (p : Path) : Type 0 where
  pub leads : (s u : Store) → holds n.fact s u → takes a p s ≡ true
      → (to : Stands holds table p.to n.right (store_after_steps a (steps_in p) s) u) × Falls n to.node

pub record LeadsRight {F : Type 0} (holds : F → Store → Store → Type 0) (a b : Fsmd) (table : List (Node F)) (n : Node F)
    (q : Path) : Type 0 where
  pub leads : (s u : Store) → holds n.fact s u → takes b q u ≡ true
      → (to : Stands holds table n.left q.to s (store_after_steps b (steps_in q) u)) × Falls n to.node

-- what a node owes, by its mode
abbrev pub Owes : {F : Type 0} → (F → Store → Store → Type 0) → Fsmd → Fsmd → List (Node F) → Node F → Mode → Type 0
Owes holds a b T n Both = (n.left ≢ Done) × (n.right ≢ Done)
    × ((p q : Path) → IsPath a p → IsPath b q → p.from ≡ n.left → q.from ≡ n.right → LeadsBoth holds a b T n p q)
Owes holds a b T n Left = (n.left ≢ Done) × ((p : Path) → IsPath a p → p.from ≡ n.left → LeadsLeft holds a b T n p)
Owes holds a b T n Right = (n.right ≢ Done) × ((q : Path) → IsPath b q → q.from ≡ n.right → LeadsRight holds a b T n q)
Owes holds a b T n End = (n.left ≡ Done) × (n.right ≡ Done)
    × ((s u : Store) → holds n.fact s u → (name : List ℕ) → output a s name ≡ output b u name)

-- a table leads from the start: its nodes stand at points, one of them at the start, and each gives what it owes
pub record LeadsOn {F : Type 0} (holds : F → Store → Store → Type 0) (a b : Fsmd) (table : List (Node F)) : Type 0 where
  pub starts : (ins : Inputs) → Stands holds table Start Start (start a ins) (start b ins)
  pub points : (k : ℕ) (n : Node F) → slice_get table k ≡ Some n → (is_point a n.left ≡ true) × (is_point b n.right ≡ true)
  pub owes : (k : ℕ) (n : Node F) → slice_get table k ≡ Some n → Owes holds a b table n n.mode
