-- What holds of answers.
use Rattle.std.specs.Prelude.{◌≡◌, ◌⊎◌, ℕ, ◌-◌, true, false, List, Option, Some, None, length, map, slice_get}
use Rattle.fs_model.specs.SoundMachines.{IsSound}
use Rattle.fs_model.specs.declared.parts.VarInfo.{VarInfo}
use Rattle.fs_model.specs.Machines.{Fsmd}
use Rattle.fs_model.specs.Runs.{SameBehaviour, is_output}
use Rattle.fs_cut.specs.Paths.{Point, Path, IsPath}
use Rattle.fs_cut.specs.Covers.{paths_from, cover_of}
use Rattle.fs_pair.specs.Interfaces.{interface_fault}
use Rattle.fs_trials.specs.Differences.{DiffersAt}
use Rattle.cert_bisimulation.specs.Tables.{Node}
use Rattle.sym_facts.specs.Facts.{Fact}
use Rattle.cert_model.specs.View.{node_of}
use Rattle.search_tables.specs.declared.moves.Move.{Move}
use Rattle.search_tables.specs.SearchTables.{MachinePair, machines}
use Rattle.search_tables.specs.Obstacles.{Obstacle, Stuck, Spin, Wide, Large, Exhausted}
use Rattle.search_tables.specs.View.{Points}
use Rattle.cert_bisimulation.specs.Alike.{WhereAlike}
use Rattle.search_laws.specs.SearchOutcomes.{IsClosedWith, StopsAtObstacle}
use Rattle.fsmd_replies.specs.ObstacleTexts.{outcome_text}
use Rattle.fsmd_pair_answers.specs.declared.answer.PairAnswer.{PairAnswer}
use Rattle.fsmd_pair_answers.specs.declared.answer.PairAnswer.TheVariants.{Equivalent, Counterexample, Undecided}
use Rattle.fsmd_pair_answers.specs.PairAnswers.{is_open_obstacle, IsLeftOpen, IsFoundBeyond, IsPairAnswer, IsClosedOrLimit}

-- two answers say the same, but for what is found beyond a search that is left open: there each may be another certificate that
-- holds, or an obstacle
abbrev pub SayPairSame : MachinePair → PairAnswer → PairAnswer → Type 0
SayPairSame m (Equivalent c) (Equivalent d) = (map node_of c.nodes.items ≡ map node_of d.nodes.items)
    ⊎ (IsFoundBeyond m (map node_of c.nodes.items) × IsFoundBeyond m (map node_of d.nodes.items))
SayPairSame m (Equivalent c) (Counterexample k) = ⊥
SayPairSame m (Equivalent c) (Undecided p) = IsFoundBeyond m (map node_of c.nodes.items)
SayPairSame m (Counterexample l) (Equivalent d) = ⊥
SayPairSame m (Counterexample l) (Counterexample k) = l.items ≡ k.items
SayPairSame m (Counterexample l) (Undecided p) = ⊥
SayPairSame m (Undecided o) (Equivalent d) = IsFoundBeyond m (map node_of d.nodes.items)
SayPairSame m (Undecided o) (Counterexample k) = ⊥
SayPairSame m (Undecided o) (Undecided p) = outcome_text m o ≡ outcome_text m p

abbrev pub OnePairAnswer : Type 0
OnePairAnswer = (limit : ℕ) (a b : Fsmd) → IsSound a → IsSound b → interface_fault a b ≡ None → (x y : PairAnswer)
    → IsPairAnswer limit a b x → IsPairAnswer limit a b y → SayPairSame (machines a b) x y

-- a search that closes, or that stops at a limit, is not left open
abbrev pub ClosedIsNotOpen : Type 0
ClosedIsNotOpen = (m : MachinePair) (nodes : List (Node Fact)) → IsClosedWith m nodes → IsLeftOpen m → ⊥

abbrev pub LimitIsNotOpen : Type 0
LimitIsNotOpen = (m : MachinePair) (moves : List Move) (points : List Points) (o : Obstacle) → StopsAtObstacle m moves points o
    → is_open_obstacle o ≡ false → IsLeftOpen m → ⊥

-- a branch of a point is listed, and is a path of the machine
pub record IsBranch (m : Fsmd) (P : Point) (branch : ℕ) : Type 0 where
  pub path : Path
  pub is_in : slice_get (paths_from (cover_of m) P) branch ≡ Some path
  pub is_path : IsPath m path
  pub from : path.from ≡ P
  pub numbered : path.branch ≡ branch

abbrev pub HasPath : Fsmd → Point → Option ℕ → Type 0
HasPath m P None = Unit {0}
HasPath m P (Some branch) = IsBranch m P branch

-- the node of a move, and its paths
pub record IsThere (m : MachinePair) (points : List Points) (x : Move) : Type 0 where
  pub node : Points
  pub is_in : slice_get points x.node ≡ Some node
  pub left : HasPath m.left node.left x.left
  pub right : HasPath m.right node.right x.right

-- the last move, and the output that differs: a variable of the left machine whose role is that of an output
pub record LastIsThere (m : MachinePair) (moves : List Move) (points : List Points) (output : ℕ) : Type 0 where
  pub move : Move
  pub is_last : slice_get moves (length moves - 1) ≡ Some move
  pub there : IsThere m points move
  pub variable : VarInfo
  pub is_in : slice_get m.left.variables output ≡ Some variable
  pub has_role : is_output variable.role ≡ true

-- the first node of a cycle
pub record FirstIsThere (points : List Points) (cycle : List ℕ) : Type 0 where
  pub first : ℕ
  pub is_first : slice_get cycle 0 ≡ Some first
  pub node : Points
  pub is_in : slice_get points first ≡ Some node

-- all that the line of an obstacle names
abbrev pub NamedAreThere : MachinePair → List Move → List Points → Obstacle → Type 0
NamedAreThere m moves points (Stuck node output) = LastIsThere m moves points output
NamedAreThere m moves points (Spin side cycle) = FirstIsThere points cycle
NamedAreThere m moves points (Wide at) = IsThere m points at
NamedAreThere m moves points (Large at) = IsThere m points at
NamedAreThere m moves points (Exhausted at what) = Unit {0}

abbrev pub LinesNameWhatIsThere : Type 0
LinesNameWhatIsThere = (m : MachinePair) → IsSound m.left → IsSound m.right
    → (moves : List Move) (points : List Points) (o : Obstacle) → StopsAtObstacle m moves points o
    → NamedAreThere m moves points o

-- machines with the same behaviour differ on no stated candidate
abbrev pub SameShowNothing : Type 0
SameShowNothing = (limit : ℕ) (a b : Fsmd) (j : ℕ) → SameBehaviour a b → ¬ DiffersAt a b limit j

-- an answer to alike machines is that of a search that closes, or that a limit stops
abbrev pub AlikeAreAnswered : Type 0
AlikeAreAnswered =
    (limit : ℕ) (a b : Fsmd) (x : PairAnswer) → IsPairAnswer limit a b x → WhereAlike a b (IsClosedOrLimit (machines a b) x)
